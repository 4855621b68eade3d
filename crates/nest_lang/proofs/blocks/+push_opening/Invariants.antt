use Rattle.std.proofs.Common.{length}
use Rattle.nest_lang.proofs.blocks.+push_opening.Given as goal

abbrev pub decreases-push_opening : goal.decreases-push_opening
decreases-push_opening l = length l.loops.now
