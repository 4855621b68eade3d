use Rattle.std.proofs.Common.{◌≡◌, ◌-◌, ◌≤◌, length, drop, false}
use Rattle.nest_tokens.specs.Lexing.{gap}
use Rattle.nest_tokens.proofs.lexer.gap_end.Given as goal

abbrev pub invariant-bytes : goal.invariant-bytes
invariant-bytes l = record {
  left : gap l.comment (drop l.at l.text) ≡ gap false (drop l.fn.from l.text);
  within : l.at ≤ length l.text;
  ahead : l.fn.from ≤ l.at;
}

abbrev pub decreases-bytes : goal.decreases-bytes
decreases-bytes l = length l.initial.text - l.at
