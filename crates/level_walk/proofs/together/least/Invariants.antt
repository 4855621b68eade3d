use Rattle.std.proofs.Common.{◌≡◌, drop}
use Rattle.std.specs.Prelude.{None}
use Rattle.level_walk.specs.Merges.{first}
use Rattle.level_walk.specs.Walks.{all_left}
use Rattle.level_walk.proofs.together.least.Given as goal

abbrev pub invariant-loop-rank : goal.invariant-loop-rank
invariant-loop-rank l = first l.best l.rank (drop l.rank (all_left l.lows l.highs l.blocks l.states)) ≡ first None 0 (all_left l.lows l.highs l.blocks l.states)
