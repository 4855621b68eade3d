use Rattle.std.proofs.Common.{length, arith, ap, ◌∙◌}
use Rattle.atomic_table.specs.Table.{Me}
use Rattle.core_steps.specs.declared.view.View.{View}
use Rattle.core_steps.proofs.StoreListLaws.{length-overlaid}
use Rattle.shared_words.proofs.SeatLaws.{keeps-settled}
use Rattle.shared_words.proofs.MainStepLaws.{settles}
use Rattle.shared_words.proofs.main_seat.MainSeat.settle.Goals as goal

pub load-requires : goal.load-requires
load-requires c =
    let it = c.self.inside in let keeps = c.self.invariant.0 in let width = keeps.words in
    let table = rw (← c.words.view_is) at (rw (← c.self.view_is) at c.requires.table) in let same = ap (λ z. z.words) table in
    let on = rw (← c.self.view_is) at c.requires.posted in let none = rw (← c.self.view_is) at c.requires.none_out in
    (table, omega arith, settles c.words.inside.table.shared.table_id.slots it.seat.id it.seat.me c.self.invariant.1 on none)

pub invariant_of-self : goal.invariant_of-self
invariant_of-self c = let it = c.self.inside in let told = c.load.ensures in
    (keeps-settled it.seat.table_id c.load.new.seat.table_id it.seat.me c.load.new.seat.me it.epoch c.self.invariant.0 told.0 told.2.0, told.1 ∙ c.self.invariant.1)

pub returns-clause-length : goal.returns-clause-length
returns-clause-length c = let it = c.self.inside in let told = c.load.ensures in let now = ap (λ (p : Me (Unit {0}) View). length p.0.base) told.2.0 in
    rw (← c.self.view_is) (now ∙ length-overlaid it.seat.me.0.own it.seat.me.0.base)
