use Rattle.std.proofs.Common.{arith}
use Rattle.listing.proofs.FileLaws.{loops_keep-count}
use Rattle.listing.proofs.task.Task.list_whole.Goals as goal

pub unreachable-requires : goal.unreachable-requires
unreachable-requires c =
    let count = loops_keep-count c.args.self.now.unit.now.nest.loops c.requires.keeps.loops_keep in
    let depth = c.depth.ensures in
    let other = c.in_default in
    omega (arith, count.0, count.1, depth)
