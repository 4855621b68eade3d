use Rattle.level_walk.proofs.WalkLaws.{IsStarted}
use Rattle.level_walk.proofs.together.start.Given as goal

abbrev pub invariant-loop-rank : goal.invariant-loop-rank
invariant-loop-rank l = IsStarted l.lows l.highs l.rank l.blocks l.states
