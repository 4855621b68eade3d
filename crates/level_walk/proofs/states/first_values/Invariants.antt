use Rattle.std.proofs.Common.{◌≡◌, take}
use Rattle.level_walk.proofs.states.first_values.Given as goal

abbrev pub invariant-loop-level : goal.invariant-loop-level
invariant-loop-level l = l.point.items ≡ take l.level l.values
