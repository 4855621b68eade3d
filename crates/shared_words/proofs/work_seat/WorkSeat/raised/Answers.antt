use Rattle.std.proofs.Common.{arith, ap}
use Rattle.shared_words.proofs.WorkerStepLaws.{sees}
use Rattle.shared_words.proofs.work_seat.WorkSeat.raised.Goals as goal

pub load-requires : goal.load-requires
load-requires c =
    let it = c.self.inside in let keeps = c.self.invariant.0 in let width = keeps.words in
    let table = rw (← c.words.view_is) at (rw (← c.self.view_is) at c.requires.table) in let same = ap (λ z. z.words) table in
    (table, omega arith, sees c.words.inside.table.shared.table_id.slots it.seat.id it.seat.me c.self.invariant.1)
