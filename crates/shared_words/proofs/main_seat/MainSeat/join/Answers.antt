use Rattle.std.proofs.Common.{arith, ap, ◌∙◌}
use Rattle.shared_words.proofs.MainStepLaws.{joins}
use Rattle.shared_words.proofs.main_seat.MainSeat.join.Goals as goal

pub join_seat-requires : goal.join_seat-requires
join_seat-requires c =
    let main = c.self.inside in let other = c.into_seat-seat.result in let told = c.into_seat-seat.ensures in let keeps = told.keeps in let width = keeps.words in
    let here = rw (← c.words.view_is) at (rw (← c.self.view_is) at c.requires.main) in
    let there = rw (← c.words.view_is) at (told.table ∙ c.requires.worker) in let same = ap (λ z. z.words) there in
    (here, there, keeps.no_slot, omega arith, joins main.seat.id main.seat.me.0 other.id other.me.0 c.self.invariant.1 told.number)
