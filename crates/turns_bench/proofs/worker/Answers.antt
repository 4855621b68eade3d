use Rattle.std.proofs.Common.{◌≡◌, ◌∙◌, ◌≤◌, ◌*◌, ◌<◌, ℕ, true, length, ap, sym, subst, arith, rules}
use Rattle.core_steps.specs.declared.plan.Plan.{Plan}
use Rattle.core_steps.specs.Plans.{IsSeparate, IsInside, writes}
use Rattle.follow_chunk.specs.Tasks.{task_of}
use Rattle.turns_bench.specs.Copies.{one_store}
use Rattle.turns_bench.proofs.PostingLaws.{postable, task-is, one-store-separate, one-store-inside, one-store-writes}
use Rattle.turns_bench.proofs.worker.Goals as goal

pub over_new_words-requires : goal.over_new_words-requires
over_new_words-requires g c =
    let t = c.task-task.result in
    let is = c.task-task.ensures in
    let plan = c.in_ok-plan.plan in
    let same : plan ≡ one_store = c.in_ok-plan.ensures in
    let times = c.args.times in
    let few = c.if-times-gt65536.false in
    let short : 1 * times ≤ 65536 = omega (arith, few) in
    let word = λ (tile : ℕ) (below : tile < 1) (some : 0 < times). subst (λ (q : Plan). writes q tile 0 ≡ true) (sym same) (one-store-writes tile below) in
    let may = postable 1 times 1 plan (subst IsSeparate (sym same) one-store-separate) (subst (IsInside 40) (sym same) one-store-inside) (ap (λ (q : Plan). length q.tiles) same) (omega arith) short (omega arith) (omega arith) word
    (task_of t) (task-is (task_of t) is.scalars (ap (λ n. n.loops) is.nest ∙ c.requires.nest) (is.pred ∙ c.requires.pred) is.outer is.chunk) in
    search rules
