use Rattle.std.proofs.Common.{refl, ap, ◌∙◌}
use Rattle.nest_lang.specs.declared.tree.Nest.{Nest}
use Rattle.follow_chunk.specs.Tasks.{task_of}
use Rattle.crew_shown.proofs.FirstTurnLaws.{task-is}
use Rattle.crew_shown.proofs.pair.claim_on_ground.Goals as goal

pub run_two_workers-requires-clause-task : goal.run_two_workers-requires-clause-task
run_two_workers-requires-clause-task g c κs within =
    let task = c.task-task.result in
    let is = c.task-task.ensures in
    task-is (task_of task) 40 is.scalars (ap (λ (n : Nest). n.loops) is.nest ∙ c.requires.nest) (is.pred ∙ c.requires.pred) is.outer is.chunk refl
