use Rattle.std.proofs.Common.{◌≡◌, ◌∙◌, ap, sym, subst, ℕ, ◌<◌, List, length, vec_len, w64, to_z, of_z, arith, rules}
use Rattle.core_steps.specs.declared.view.View.{View}
use Rattle.follow_chunk.specs.Tasks.{task_of}
use Rattle.phase_run.specs.Postings.{PostingState, IsPostable}
use Rattle.phase_run.specs.Seats.{AreOfPhase, IsPosted}
use Rattle.phase_run.proofs.HandingLaws.{still-of-phase, are-done, still-theirs, tiles-are, gains}
use Rattle.phase_run.proofs.run.run_phase.Goals as goal

pub close-requires-after_bounds : goal.close-requires-after_bounds
close-requires-after_bounds g c κs inside =
    let t = c.args.task.now in
    let k = task_of t in
    let p = c.args.posting.now in
    let v = c.args.main.now.view in
    let m = c.lend.new.main.view in
    let posting = c.post.ensures.view in
    let lending = c.lend.ensures.main in
    let table : c.lend.new.main.table ≡ p.table = c.lend.ensures.table ∙ c.post.ensures.table ∙ c.requires.table in
    let base : m.base ≡ v.base = ap (λ (u : View). u.base) lending ∙ ap (λ (u : View). u.base) posting in
    let postable = subst (λ (b : List ℕ). IsPostable g.row.D (length b) k p) (sym base) c.requires.postable in
    let posted : IsPosted p m = record {
      posted = ap (λ (u : View). u.posted) lending ∙ ap (λ (u : View). u.posted) posting;
      plan = ap (λ (u : View). u.plan) lending ∙ ap (λ (u : View). u.plan) posting ∙ ap (λ (q : PostingState). q.plan) c.posting.view_is;
      held = ap (λ (u : View). u.held) lending ∙ ap (λ (u : View). u.held) posting;
      own = ap (λ (u : View). u.own) lending ∙ ap (λ (u : View). u.own) posting;
      failed = ap (λ (u : View). u.failed) lending ∙ ap (λ (u : View). u.failed) posting;
    } in
    let ran = c.work.ensures.ran in
    let long = ran.same_length in
    let old = c.lend.new.workers.ok.0 in
    let new = c.work.new.jobs.ok.0 in
    let lent = c.lend.ensures.count in
    let count : vec_len c.work.new.jobs ≡ p.workers = omega (arith, long, old, new, lent) in
    let out = still-theirs c.lend.new.workers.items c.work.new.jobs.items ran m.out c.lend.ensures.out in
    let theirs = still-of-phase c.lend.new.workers.items c.work.new.jobs.items ran k p m.base (subst (λ (b : List ℕ). AreOfPhase k p b c.lend.new.workers.items) (sym (ap (λ (u : View). u.base) lending)) c.lend.ensures.lent) in
    let done = are-done c.lend.new.workers.items c.work.new.jobs.items ran in
    search rules

pub returns-clause-handed : goal.returns-clause-handed
returns-clause-handed g c =
    let t = c.args.task.now in
    let k = task_of t in
    let p = c.args.posting.now in
    let old = c.lend.new.workers.ok.0 in
    let lent = c.lend.ensures.count in
    let asked = c.requires.postable.some in
    let some : 0 < length c.lend.new.workers.items = omega (arith, old, lent, asked) in
    let first : to_z w64 (of_z w64 t.chunk.first) ≡ t.chunk.first = search rules in
    gains k p c.close.result (g.C.Crew.handed c.args.crew.now) (g.C.Crew.handed c.work.new.self) _ _ _ _ _ c.work.ensures.handed first (ap (λ (q : PostingState). q.number) c.posting.view_is) lent
    (tiles-are c.lend.new.workers.items k p c.post.new.self.view.base some c.lend.ensures.lent) c.close.ensures.steps
