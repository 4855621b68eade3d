use Rattle.std.proofs.Common.{◌≡◌, take, length}
use Rattle.level_walk.proofs.states.array_of.Given as goal

abbrev pub invariant-loop-level : goal.invariant-loop-level
invariant-loop-level l = (take l.level l.array ≡ take l.level l.values) × (length l.array ≡ 6)
