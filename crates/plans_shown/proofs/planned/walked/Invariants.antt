use Rattle.std.proofs.Common.{◌≡◌, length}
use Rattle.plans_shown.proofs.planned.walked.Given as goal

abbrev pub invariant-loop-tile : goal.invariant-loop-tile
invariant-loop-tile g l = l.walk.lists ≡ l.initial.walk.lists

abbrev pub invariant-instances : goal.invariant-instances
invariant-instances g l = l.walk.lists ≡ l.initial.walk.lists

abbrev pub decreases-instances : goal.decreases-instances
decreases-instances g l = length l.walk.rest
