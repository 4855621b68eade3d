use Rattle.std.proofs.Common.{arith, ap}
use Rattle.shared_words.proofs.MainStepLaws.{splits}
use Rattle.shared_words.proofs.main_seat.MainSeat.split_as.Goals as goal

pub split_seat-seat-requires : goal.split_seat-seat-requires
split_seat-seat-requires g c =
    let it = c.self.inside in let keeps = c.self.invariant.0 in let width = keeps.words in
    let table = rw (← c.words.view_is) at (rw (← c.self.view_is) at c.requires.table) in let same = ap (λ z. z.words) table in
    let on = rw (← c.self.view_is) at c.requires.posted in let fresh = rw (← c.self.view_is) at c.requires.fresh in
    (table, omega arith, rw c.requires.picked at (splits it.seat.id it.seat.me.0 c.args.worker c.self.invariant.1 on c.requires.number fresh))
