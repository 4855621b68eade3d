use Rattle.std.proofs.Common.{◌+◌, ◌*◌}
use Rattle.nest_text.proofs.reader.Reader.+nesting.Given as goal

abbrev pub decreases-rest : goal.decreases-rest
decreases-rest l = 3 * l.levels + 1

abbrev pub decreases-loop_of : goal.decreases-loop_of
decreases-loop_of l = 3 * l.levels + 2

abbrev pub decreases-loops : goal.decreases-loops
decreases-loops l = 3 * l.levels
