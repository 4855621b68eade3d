use Rattle.std.proofs.Common.{arith, ap}
use Rattle.shared_words.proofs.WorkerStepLaws.{raises}
use Rattle.shared_words.proofs.work_seat.WorkSeat.raise.Goals as goal

pub store-requires : goal.store-requires
store-requires c =
    let it = c.self.inside in let keeps = c.self.invariant.0 in let width = keeps.words in
    let table = rw (← c.words.view_is) at (rw (← c.self.view_is) at c.requires.table) in let same = ap (λ z. z.words) table in
    (table, omega arith, rw keeps.epoch_is (raises c.words.inside.table.shared.table_id.slots it.seat.id it.seat.me c.self.invariant.1))
