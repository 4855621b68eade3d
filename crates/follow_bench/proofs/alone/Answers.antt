use Rattle.std.proofs.Common.{refl, ap, ◌∙◌}
use Rattle.follow_chunk.specs.Tasks.{task_of}
use Rattle.follow_bench.proofs.FirstTurnLaws.{predicted-is, task-is}
use Rattle.follow_bench.proofs.alone.Goals as goal

pub alone_once-requires-clause-task : goal.alone_once-requires-clause-task
alone_once-requires-clause-task c =
    let task = c.task-task.result in
    let is = c.task-task.ensures in
    task-is (task_of task) 40 is.scalars (ap (λ n. n.loops) is.nest ∙ c.requires.nest) (is.pred ∙ c.requires.pred) is.outer is.chunk refl

pub alone_once-requires-clause-first : goal.alone_once-requires-clause-first
alone_once-requires-clause-first c =
    let task = c.task-task.result in
    let is = c.task-task.ensures in
    predicted-is task.pred.now task.chunk _ (is.pred ∙ c.requires.pred) is.chunk refl
