use Rattle.std.proofs.Common.{arith, ap}
use Rattle.shared_words.proofs.MainStepLaws.{main-loads}
use Rattle.shared_words.proofs.main_seat.MainSeat.load.Goals as goal

pub load-requires : goal.load-requires
load-requires c =
    let it = c.self.inside in let keeps = c.self.invariant.0 in let width = keeps.words in
    let table = rw (← c.words.view_is) at (rw (← c.self.view_is) at c.requires.table) in let same = ap (λ z. z.words) table in
    let off = rw (← c.self.view_is) at c.requires.unposted in let word = rw (← c.self.view_is) at c.requires.word in
    (table, omega arith, main-loads c.words.inside.table.shared.table_id.slots it.seat.id c.args.address it.seat.me c.self.invariant.1 off word)
