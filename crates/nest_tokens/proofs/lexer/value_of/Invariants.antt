use Rattle.std.proofs.Common.{◌≡◌, ◌<◌, ◌^◌, drop}
use Rattle.nest_tokens.specs.Lexing.{decimal, decimal_from}
use Rattle.nest_tokens.proofs.lexer.value_of.Given as goal

abbrev pub invariant-loop-digit : goal.invariant-loop-digit
invariant-loop-digit l = record {
  value : decimal_from l.value (drop l.digit-index l.digits) ≡ decimal l.digits;
  fits : l.value < 2 ^ 64;
}
