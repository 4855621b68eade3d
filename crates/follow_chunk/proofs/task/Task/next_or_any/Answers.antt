use Rattle.std.proofs.Common.{◌≡◌, rules}
use Rattle.follow_chunk.specs.Tasks.{task_of}
use Rattle.follow_chunk.proofs.RunningLaws.{none-behind}
use Rattle.follow_chunk.proofs.task.Task.next_or_any.Goals as goal

pub returns-then-count-eq0 : goal.returns-then-count-eq0
returns-then-count-eq0 g c =
    let self = c.args.self.now in
    let task = c.requires.task in
    let x = c.args.inst.now in
    let p = c.requires.predicted in
    let zero : self.scalars ≡ 0 = search rules in
    let same = none-behind g.row.D (task_of self) task.0 task.1 x p zero in
    search rules
