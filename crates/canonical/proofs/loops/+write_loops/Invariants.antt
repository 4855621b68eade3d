use Rattle.std.proofs.Common.{length}
use Rattle.canonical.proofs.loops.+write_loops.Given as goal

abbrev pub decreases-write_loops : goal.decreases-write_loops
decreases-write_loops l = length l.loops.now
