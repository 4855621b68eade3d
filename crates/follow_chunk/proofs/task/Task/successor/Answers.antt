use Rattle.std.proofs.Common.{rules}
use Rattle.follow_chunk.specs.Tasks.{task_of}
use Rattle.follow_chunk.proofs.LaunchedInstanceLaws.{can-turn}
use Rattle.follow_chunk.proofs.RunningLaws.{next-is}
use Rattle.follow_chunk.proofs.task.Task.successor.Goals as goal

pub successor-requires : goal.successor-requires
successor-requires g c =
    let self = c.args.self.now in
    let task = c.requires.task in
    let x = c.args.inst.now in
    let p = c.requires.predicted in
    let block = p.is.block in
    let can = can-turn g.row.D (task_of self) task.0 task.1 x p in
    search rules

pub returns : goal.returns
returns g c =
    let self = c.args.self.now in
    let task = c.requires.task in
    next-is g.row.D (task_of self) task.0 task.1 c.args.inst.now c.requires.predicted c.successor.result c.successor.ensures
