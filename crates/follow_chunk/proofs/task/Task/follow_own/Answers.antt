use Rattle.std.proofs.Common.{◌≡◌, [], rules}
use Rattle.follow_chunk.specs.Tasks.{task_of}
use Rattle.follow_chunk.specs.Predicted.{scalars_at}
use Rattle.follow_chunk.proofs.RunningLaws.{none-here}
use Rattle.follow_chunk.proofs.task.Task.follow_own.Goals as goal

pub follow_from-requires : goal.follow_from-requires
follow_from-requires g c =
    let self = c.args.self.now in
    let task = c.requires.task in
    let x = c.args.foreseen.now.inst.now in
    let zero : self.scalars ≡ 0 = search rules in
    let begins : [] ≡ scalars_at self.pred.now x = none-here g.row.D (task_of self) task.0 task.1 x c.requires.predicted zero in
    search rules
