use Rattle.std.proofs.Common.{◌≡◌, ◌∙◌, ap, sym, subst, ℕ, ◌+◌, ◌≤◌, true, List, ◌∷◌, length, arith, rules}
use Rattle.domain.specs.Instances.{Instance, Predicted}
use Rattle.core_steps.specs.declared.view.View.{View}
use Rattle.core_steps.specs.Numbers.{has}
use Rattle.plain_lemmas.specs.Lists.{Has}
use Rattle.orders.specs.Tiles.{flat}
use Rattle.shared_words.specs.Seats.{memory_words}
use Rattle.follow_chunk.specs.Tasks.{task_of}
use Rattle.verified_turns.specs.Workers.{StaysWithin}
use Rattle.phase_run.specs.Postings.{PostingState}
use Rattle.phase_run.specs.Seats.{OnlyTheirs}
use Rattle.phase_run.proofs.LendingLaws.{still-below, lent-base, lent-plan, fresh, long, task, within, one-more, theirs-more}
use Rattle.phase_run.proofs.lend.lend.Goals as goal

pub new-requires : goal.new-requires
new-requires g c =
    let t = c.args.task.now in
    let k = task_of t in
    let p = c.args.posting.now in
    let first = c.args.main.now.view in
    let m = c.loop-number.main.view in
    let v = c.split-seat.result.view in
    let may = c.requires.postable in
    let lent = c.split-seat.ensures.worker in
    let inv = c.loop-number.invariant in
    let number = c.loop-number.number + 1 in
    let deep = may.deep in
    let words : c.loop-number.main.table ≡ c.posting.inside.words.now = inv.table ∙ c.requires.table ∙ sym (ap (λ (q : PostingState). q.table) c.posting.view_is) in
    let table : c.split-seat.result.table ≡ c.posting.inside.words.now = c.split-seat.ensures.table.1 ∙ words in
    let counted : memory_words c.posting.inside.words.now ≡ length v.base = ap memory_words (sym words) ∙ c.split-seat.ensures.count ∙ ap (λ (u : View). length u.base) (sym lent) in
    let same = c.make-walk.ensures.lists ∙ ap (λ (q : PostingState). q.lists) c.posting.view_is in
    let new = fresh {D = g.row.D} k p first m v number inv.main c.requires.posted may lent in
    let lists = ap (λ (l : List (List Instance)). length l) same ∙ long {D = g.row.D} k p first m v number inv.main c.requires.posted may lent in
    let rest = c.make-walk.ensures.rest in
    let launched = task {D = g.row.D} k p first m v number inv.main c.requires.posted may lent in
    let stays = subst (λ (l : List (List Instance)). StaysWithin k (length v.base) v.plan l) (sym same) (within {D = g.row.D} k p first m v number inv.main c.requires.posted may lent) in
    let predicted = subst (λ (l : List (List Instance)). (x : Instance) → Has (flat l) x → Predicted k.pred k.chunk x) (sym same) may.predicted in
    let short = subst (λ (l : List (List Instance)). length (flat l) ≤ 65536) (sym same) may.short in
    search rules

pub loop-number-preserved : goal.loop-number-preserved
loop-number-preserved g c =
    let t = c.args.task.now in
    let k = task_of t in
    let p = c.args.posting.now in
    let first = c.args.main.now.view in
    let m = c.loop-number.main.view in
    let v = c.split-seat.result.view in
    let may = c.requires.postable in
    let lent = c.split-seat.ensures.worker in
    let inv = c.loop-number.invariant in
    let number = c.loop-number.number + 1 in
    let main = c.split-seat.ensures.main in
    let out : c.split-seat.new.self.view.out ≡ number ∷ m.out = ap (λ (u : View). u.out) main in
    let same = c.make-walk.ensures.lists ∙ ap (λ (q : PostingState). q.lists) c.posting.view_is in
    let w = c.new.result in
    let is = c.push_reserved.ensures.items in
    let seat = c.new.ensures.seat in
    record {
      table = c.split-seat.ensures.table.0 ∙ inv.table;
      main = main ∙ ap (λ (u : View). record u { out = number ∷ m.out }) inv.main ∙ ap (λ (o : List ℕ). record first { out = o }) (sym out);
      count = (let more = c.push_reserved.ensures.len in let count = inv.count in omega (arith, more, count));
      few = (let below = c.loop-number-test.true in let asked = ap (λ (q : PostingState). q.workers) c.posting.view_is in omega (arith, below, asked));
      room = (let room = inv.room in let kept = c.push_reserved.ensures.capacity in omega (arith, room, kept));
      below = λ n h. still-below m.out c.loop-number.number inv.below n (subst (λ (o : List ℕ). has n o ≡ true) out h);
      out = subst (λ (o : List ℕ). OnlyTheirs o c.push_reserved.new.self.items) (sym out) (theirs-more c.loop-number.workers.items c.push_reserved.new.self.items w is m.out number (ap (λ (u : View). u.number) (seat.1 ∙ lent)) inv.out);
      lent = one-more c.loop-number.workers.items c.push_reserved.new.self.items w is k p first.base inv.lent (record {
        same_table = seat.0 ∙ c.split-seat.ensures.table.1 ∙ inv.table ∙ c.requires.table;
        same_task = c.new.ensures.task;
        same_lists = c.new.ensures.lists ∙ same;
        same_base = ap (λ (u : View). u.base) seat.1 ∙ lent-base {D = g.row.D} k p first m v number inv.main c.requires.posted may lent;
        same_plan = ap (λ (u : View). u.plan) seat.1 ∙ lent-plan {D = g.row.D} k p first m v number inv.main c.requires.posted may lent;
      });
    }
