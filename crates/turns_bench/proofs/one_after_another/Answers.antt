use Rattle.std.proofs.Common.{◌≡◌, ◌∙◌, ◌<◌, ◌≤◌, ap, sym, subst, ℕ, length, arith, rules}
use Rattle.std.specs.Prelude.{vec_capacity}
use Rattle.follow_chunk.specs.Tasks.{task_of}
use Rattle.phase_run.specs.Postings.{PostingState, IsPostable}
use Rattle.turns_bench.specs.Copies.{tiles_of}
use Rattle.turns_bench.proofs.one_after_another.Goals as goal

pub run_phase-ran-requires-after_bounds : goal.run_phase-ran-requires-after_bounds
run_phase-ran-requires-after_bounds g c κs inside =
    let inv = c.loop-number.invariant in
    let t = c.args.task.now in
    let k = task_of t in
    let a = c.args.asked.now in
    let p = c.new-posting.result in
    let is = c.new-posting.ensures in
    let table : c.loop-number.main.table ≡ p.table = inv.table ∙ sym (ap (λ (q : PostingState). q.table) is) in
    let asked = c.requires.postable c.args.words.now c.loop-number.number in
    let postable = subst (λ (q : PostingState). IsPostable 1 (length c.loop-number.main.view.base) k q) (sym is)
    (subst (λ (n : ℕ). IsPostable 1 n k (record { table = c.args.words.now; lists = tiles_of a.walks.now.tiles a.walks.now.each; plan = a.plan.now; number = c.loop-number.number; workers = a.workers })) (sym inv.long) asked) in
    let room : p.workers ≤ vec_capacity c.loop-number.all = (let fits = inv.room in let same = ap (λ (q : PostingState). q.workers) is in omega (arith, fits, same)) in
    let below = c.loop-number-test.true in
    let spare : 0 < g.C.Crew.spare c.loop-number.crew = (let left = inv.spare in omega (arith, left, below)) in
    let unposted = inv.unposted in
    let epoch = inv.epoch in
    let empty = inv.empty in
    search rules
