use Rattle.std.proofs.Common.{◌≡◌, take}
use Rattle.chunk_run.proofs.scalars.are_same.Given as goal

abbrev pub invariant-loop-number : goal.invariant-loop-number
invariant-loop-number l = take l.number l.scalars ≡ take l.number l.expected
