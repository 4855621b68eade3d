use Rattle.std.proofs.Common.{take}
use Rattle.level_walk.specs.Listings.{listed_in}
use Rattle.level_walk.specs.Stretches.{AreRunsOf}
use Rattle.level_walk.proofs.stretches.listed_runs.Given as goal

abbrev pub invariant-loop-point : goal.invariant-loop-point
invariant-loop-point l = AreRunsOf (listed_in l.lows l.highs (take l.point-index l.points)) l.runs.items
