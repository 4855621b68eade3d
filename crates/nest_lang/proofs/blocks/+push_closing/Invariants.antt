use Rattle.std.proofs.Common.{length}
use Rattle.nest_lang.proofs.blocks.+push_closing.Given as goal

abbrev pub decreases-push_closing : goal.decreases-push_closing
decreases-push_closing l = length l.loops.now
