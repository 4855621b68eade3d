use Rattle.std.proofs.Common.{◌≡◌, take}
use Rattle.tiles.specs.Counts.{count_of}
use Rattle.tiles.proofs.chunk_plan.count.Given as goal

abbrev pub invariant-loop-run : goal.invariant-loop-run
invariant-loop-run g l = l.count ≡ count_of (take l.run-index l.runs)
