use Rattle.std.proofs.Common.{◌≡◌, ◌∙◌, ◌<◌, ℕ, length, ap, sym, subst, arith, rules}
use Rattle.core_steps.specs.declared.plan.Plan.{Plan}
use Rattle.core_steps.specs.Plans.{IsSeparate, IsInside}
use Rattle.follow_chunk.specs.Tasks.{task_of}
use Rattle.turns_bench.specs.Copies.{four_empty}
use Rattle.turns_bench.proofs.PostingLaws.{postable, task-is, four-empty-separate, four-empty-inside}
use Rattle.turns_bench.proofs.phases.Goals as goal

pub over_new_words-requires : goal.over_new_words-requires
over_new_words-requires g c =
    let t = c.task-task.result in
    let is = c.task-task.ensures in
    let plan = c.in_ok-plan.plan in
    let same : plan ≡ four_empty = c.in_ok-plan.ensures in
    let may = postable 4 0 4 plan (subst IsSeparate (sym same) four-empty-separate) (subst (IsInside 40) (sym same) four-empty-inside) (ap (λ (q : Plan). length q.tiles) same) (omega arith) (omega arith) (omega arith) (omega arith) (λ (tile : ℕ) (below : tile < 4) (some : 0 < 0). absurd (omega (arith, some)))
    (task_of t) (task-is (task_of t) is.scalars (ap (λ n. n.loops) is.nest ∙ c.requires.nest) (is.pred ∙ c.requires.pred) is.outer is.chunk) in
    search rules
