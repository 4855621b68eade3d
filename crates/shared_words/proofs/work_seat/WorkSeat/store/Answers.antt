use Rattle.std.proofs.Common.{◌<◌, length, arith, ap}
use Rattle.core_steps.specs.Plans.{writes}
use Rattle.core_steps.proofs.StateStepLaws.{any-held}
use Rattle.core_steps.proofs.StoreKeeps.{write-touches}
use Rattle.shared_words.proofs.WorkerStepLaws.{stores}
use Rattle.shared_words.proofs.work_seat.WorkSeat.store.Goals as goal

pub overflow_add-address : goal.overflow_add-address
overflow_add-address c =
    let it = c.self.inside in let keeps = c.self.invariant.0 in let width = keeps.words in
    let table = rw (← c.words.view_is) at (rw (← c.self.view_is) at c.requires.table) in let same = ap (λ z. z.words) table in
    let tile = rw (← c.self.view_is) at c.requires.tile in
    let held = any-held (λ k. writes it.seat.me.0.plan k c.args.address) it.seat.me.0.held tile in
    let within : c.args.address < length it.seat.me.0.base = keeps.inside held.0 c.args.address (write-touches it.seat.me.0.plan held.0 c.args.address held.2) in
    let few = c.words.invariant.1 in omega arith

pub store-requires : goal.store-requires
store-requires c =
    let it = c.self.inside in let keeps = c.self.invariant.0 in let width = keeps.words in
    let table = rw (← c.words.view_is) at (rw (← c.self.view_is) at c.requires.table) in let same = ap (λ z. z.words) table in
    let tile = rw (← c.self.view_is) at c.requires.tile in
    let held = any-held (λ k. writes it.seat.me.0.plan k c.args.address) it.seat.me.0.held tile in
    let within : c.args.address < length it.seat.me.0.base = keeps.inside held.0 c.args.address (write-touches it.seat.me.0.plan held.0 c.args.address held.2) in
    (table, omega arith, stores c.words.inside.table.shared.table_id.slots it.seat.id c.args.address c.cast_unsigned.result it.seat.me c.self.invariant.1 tile)
