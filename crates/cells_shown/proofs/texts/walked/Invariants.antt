use Rattle.std.proofs.Common.{length}
use Rattle.cells_shown.proofs.texts.walked.Given as goal

abbrev pub decreases-instances : goal.decreases-instances
decreases-instances l = length l.walk.rest
