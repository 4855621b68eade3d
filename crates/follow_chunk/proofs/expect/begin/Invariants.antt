use Rattle.std.proofs.Common.{◌≡◌, take}
use Rattle.follow_chunk.specs.Predicted.{scalars_at}
use Rattle.follow_chunk.proofs.expect.begin.Given as goal

abbrev pub invariant-loop-number : goal.invariant-loop-number
invariant-loop-number g l = take l.number l.scalars ≡ take l.number (scalars_at l.pred l.inst)
