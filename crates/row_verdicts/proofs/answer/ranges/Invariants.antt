use Rattle.std.proofs.Common.{◌≡◌, ◌≤◌, ◌^◌, length, unsigned_abs}
use Rattle.std.specs.List.{All}
use Rattle.row_verdicts.proofs.answer.ranges.Given as goal

abbrev pub invariant-loop-level : goal.invariant-loop-level
invariant-loop-level l = record {
  long : length l.point.items ≡ l.level;
  small : All (λ value. unsigned_abs value ≤ 2 ^ 60) l.point.items;
}
