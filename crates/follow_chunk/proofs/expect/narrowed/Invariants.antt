use Rattle.std.proofs.Common.{◌≡◌, take}
use Rattle.follow_chunk.proofs.expect.narrowed.Given as goal

abbrev pub invariant-loop-scalar : goal.invariant-loop-scalar
invariant-loop-scalar l = l.narrow.items ≡ take l.scalar-index l.scalars
