use Rattle.std.proofs.Common.{◌≤◌, ◌^◌, unsigned_abs}
use Rattle.std.specs.List.{All}
use Rattle.row_verdicts.proofs.system.numbers.Given as goal

abbrev pub invariant-loop-word : goal.invariant-loop-word
invariant-loop-word l = All (λ number. unsigned_abs number ≤ 2 ^ 100) l.numbers.items
