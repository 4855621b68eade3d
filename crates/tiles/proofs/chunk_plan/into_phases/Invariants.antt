use Rattle.std.proofs.Common.{◌≡◌}
use Rattle.tiles.proofs.chunk_plan.into_phases.Given as goal

abbrev pub invariant-loop-group : goal.invariant-loop-group
invariant-loop-group g l = l.phases.items ≡ l.yielded
