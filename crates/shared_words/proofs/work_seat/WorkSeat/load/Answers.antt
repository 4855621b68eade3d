use Rattle.std.proofs.Common.{◌<◌, length, arith, ap}
use Rattle.core_steps.specs.Plans.{touches}
use Rattle.core_steps.proofs.StateStepLaws.{any-held}
use Rattle.shared_words.proofs.WorkerStepLaws.{loads}
use Rattle.shared_words.proofs.work_seat.WorkSeat.load.Goals as goal

pub overflow_add-address : goal.overflow_add-address
overflow_add-address c =
    let it = c.self.inside in let keeps = c.self.invariant.0 in let width = keeps.words in
    let table = rw (← c.words.view_is) at (rw (← c.self.view_is) at c.requires.table) in let same = ap (λ z. z.words) table in
    let tile = rw (← c.self.view_is) at c.requires.tile in
    let held = any-held (λ k. touches it.seat.me.0.plan k c.args.address) it.seat.me.0.held tile in
    let within : c.args.address < length it.seat.me.0.base = keeps.inside held.0 c.args.address held.2 in
    let few = c.words.invariant.1 in omega arith

pub load-requires : goal.load-requires
load-requires c =
    let it = c.self.inside in let keeps = c.self.invariant.0 in let width = keeps.words in
    let table = rw (← c.words.view_is) at (rw (← c.self.view_is) at c.requires.table) in let same = ap (λ z. z.words) table in
    let tile = rw (← c.self.view_is) at c.requires.tile in
    let held = any-held (λ k. touches it.seat.me.0.plan k c.args.address) it.seat.me.0.held tile in
    let within : c.args.address < length it.seat.me.0.base = keeps.inside held.0 c.args.address held.2 in
    (table, omega arith, loads c.words.inside.table.shared.table_id.slots it.seat.id c.args.address it.seat.me c.self.invariant.1 tile)
