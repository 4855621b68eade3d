use Rattle.profile.specs.Parts.{AreLevels, StayWithinReach}
use Rattle.profile.proofs.nest_fit.fit_levels.Given as goal

abbrev pub invariant-loop-around : goal.invariant-loop-around
invariant-loop-around g l = AreLevels l.nest.loops l.bounds l.around l.levels.items × StayWithinReach l.levels.items
