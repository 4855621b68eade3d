use Rattle.std.proofs.Common.{arith, ap}
use Rattle.shared_words.proofs.WorkerStepLaws.{claims}
use Rattle.shared_words.proofs.work_seat.WorkSeat.claim.Goals as goal

pub swap-old-requires : goal.swap-old-requires
swap-old-requires c =
    let it = c.self.inside in let keeps = c.self.invariant.0 in let width = keeps.words in
    let table = rw (← c.words.view_is) at (rw (← c.self.view_is) at c.requires.table) in let same = ap (λ z. z.words) table in
    let tile = rw (← c.self.view_is) at c.requires.tile in let few = keeps.few in
    (table, omega arith, rw keeps.epoch_is (claims c.words.inside.table.shared.table_id.slots it.seat.id c.args.tile it.seat.me c.self.invariant.1 tile))
