use Rattle.std.proofs.Common.{arith, ap, ◌∙◌, sym}
use Rattle.core_steps.specs.declared.plan.Plan.{Plan}
use Rattle.core_steps.specs.Views.{posted_view}
use Rattle.shared_words.proofs.SeatLaws.{keeps-posted}
use Rattle.shared_words.proofs.MainStepLaws.{posts}
use Rattle.shared_words.proofs.main_seat.MainSeat.post_as.Goals as goal

pub load-requires : goal.load-requires
load-requires g c =
    let it = c.self.inside in let keeps = c.self.invariant.0 in let width = keeps.words in
    let table = rw (← c.words.view_is) at (rw (← c.self.view_is) at c.requires.table) in let same = ap (λ z. z.words) table in
    let off = rw (← c.self.view_is) at c.requires.unposted in let inside = rw (← c.self.view_is) at c.requires.inside in
    (table, omega arith, rw c.requires.picked at (posts c.words.inside.table.shared.table_id.slots it.seat.id it.seat.me c.args.plan.now c.self.invariant.1 (record { off = off; separate = c.requires.separate; few = c.requires.few; inside = inside })))

pub invariant_of-self : goal.invariant_of-self
invariant_of-self g c = let it = c.self.inside in let told = c.load.ensures in let inside = rw (← c.self.view_is) at c.requires.inside in
    let now = told.2.0 ∙ ap (λ (p : Plan). (posted_view it.seat.me.0 it.seat.me.0.base p, it.seat.me.1)) (sym c.requires.picked) in
    (keeps-posted it.seat.table_id c.load.new.seat.table_id it.seat.me c.load.new.seat.me it.epoch c.args.plan.now c.self.invariant.0 told.0 now c.requires.few inside, told.1 ∙ c.self.invariant.1)
