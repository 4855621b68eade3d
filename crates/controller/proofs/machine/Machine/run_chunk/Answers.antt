use Rattle.std.proofs.Common.{◌≡◌, ◌∙◌, sym, ap, ℤ, pos, ◌+ℤ◌, List, ◌++◌, length, drop, take, unsigned_abs, FitsSigned, w64, to_z-of_z, arith, rules}
use Rattle.std.proofs.lemmas.Int.{ints}
use Rattle.std.proofs.lemmas.Result.{err_from_is_err_and}
use Rattle.nest_lang.specs.declared.state.Outer.{Outer}
use Rattle.nest_lang.specs.Turns.{turns_later}
use Rattle.shared_words.specs.Memories.{signed}
use Rattle.chunk_run.specs.ChunkEnds.{between}
use Rattle.plain_interp.proofs.PositionLaws.{position-next}
use Rattle.controller.specs.Machines.{MachineState, between_at}
use Rattle.controller.proofs.PlacedLaws.{take-front}
use Rattle.controller.proofs.RunLaws.{has-run, has-run-none}
use Rattle.controller.proofs.machine.Machine.run_chunk.Goals as goal

pub later-self-inside-requires-clause-fits : goal.later-self-inside-requires-clause-fits
later-self-inside-requires-clause-fits g c =
    let task = c.requires.task in
    let some = task.some in
    let most = task.most in
    let soon = task.soon in
    let first = task.first in
    let number = position-next c.args.task.now.nest.now.loops c.args.task.now.outer task.position in
    let from : c.args.task.now.outer.next ≡ pos number.0 = number.1 in
    let here : c.self.inside.place.outer.next ≡ c.args.task.now.outer.next = ap (λ (a : MachineState). a.moment.outer.next) c.self.view_is ∙ sym (ap (λ (o : Outer). o.next) c.requires.outer) in
    let few : FitsSigned w64 c.args.task.now.chunk.turns = omega (arith, ints, some, most) in
    let sum : FitsSigned w64 (c.self.inside.place.outer.next +ℤ c.args.task.now.chunk.turns) = omega (arith, ints, some, most, soon, first, from, here) in
    simp to_z-of_z sum

pub returns-in-Committed-clause-run : goal.returns-in-Committed-clause-run
returns-in-Committed-clause-run g c =
    let inside = c.self.inside in
    let task = c.requires.task in
    let some = task.some in
    let most = task.most in
    let few : FitsSigned w64 c.args.task.now.chunk.turns = omega (arith, ints, some, most) in
    let kept : inside.scalars.len ≡ length c.run_chunk.new.scalars = search rules in
    let same : take inside.scalars.len (c.run_chunk.new.scalars ++ drop (length c.run_chunk.new.scalars) inside.scalars.items) ≡ c.run_chunk.new.scalars =
    take-front inside.scalars.len c.run_chunk.new.scalars (drop (length c.run_chunk.new.scalars) inside.scalars.items) kept in
    has-run (record { table = c.args.task.now.pred.now; schedule = c.args.schedule.now; chunk = c.args.task.now.chunk }) c.args.task.now.nest.now.loops c.args.task.now.outer c.args.self.now.moment _
    (between (signed inside.main.view.base) c.as_mut_slice.result.now inside.place.steps) (between (signed c.run_chunk.new.main.view.base) c.run_chunk.new.scalars c.run_chunk.new.steps)
    (sym c.requires.outer)
    (ap (λ (a : MachineState). between_at a.moment) (sym c.self.view_is) ∙ ap (λ (xs : List ℤ). between (signed inside.main.view.base) xs inside.place.steps) (sym c.as_mut_slice.ensures.value))
    (ap (λ (xs : List ℤ). between (signed c.run_chunk.new.main.view.base) xs c.run_chunk.new.steps) same)
    c.in_ok-end.end c.in_ok-end.ensures.ended (ap (λ (a : MachineState). a.moment.store.locals) c.self.view_is)
    (λ instances phases tiles steps is. (simp to_z-of_z at c.later-self-inside.ensures) ∙ ap (λ (a : MachineState). turns_later a.moment.outer (unsigned_abs c.args.task.now.chunk.turns)) c.self.view_is)
    (λ back. let is = c.in-Committed.is in absurd (cc))

pub returns-in-RolledBack-clause-run : goal.returns-in-RolledBack-clause-run
returns-in-RolledBack-clause-run g c =
    let inside = c.self.inside in
    let kept : inside.scalars.len ≡ length c.run_chunk.new.scalars = search rules in
    let same : take inside.scalars.len (c.run_chunk.new.scalars ++ drop (length c.run_chunk.new.scalars) inside.scalars.items) ≡ c.run_chunk.new.scalars =
    take-front inside.scalars.len c.run_chunk.new.scalars (drop (length c.run_chunk.new.scalars) inside.scalars.items) kept in
    has-run (record { table = c.args.task.now.pred.now; schedule = c.args.schedule.now; chunk = c.args.task.now.chunk }) c.args.task.now.nest.now.loops c.args.task.now.outer c.args.self.now.moment _
    (between (signed inside.main.view.base) c.as_mut_slice.result.now inside.place.steps) (between (signed c.run_chunk.new.main.view.base) c.run_chunk.new.scalars c.run_chunk.new.steps)
    (sym c.requires.outer)
    (ap (λ (a : MachineState). between_at a.moment) (sym c.self.view_is) ∙ ap (λ (xs : List ℤ). between (signed inside.main.view.base) xs inside.place.steps) (sym c.as_mut_slice.ensures.value))
    (ap (λ (xs : List ℤ). between (signed c.run_chunk.new.main.view.base) xs c.run_chunk.new.steps) same)
    c.in_ok-end.end c.in_ok-end.ensures.ended (ap (λ (a : MachineState). a.moment.store.locals) c.self.view_is)
    (λ instances phases tiles steps is. let back = c.in-RolledBack.is in absurd (cc))
    (λ back. ap (λ (a : MachineState). a.moment.outer) c.self.view_is)

pub returns-in_err-end-clause-run : goal.returns-in_err-end-clause-run
returns-in_err-end-clause-run g c =
    let inside = c.self.inside in
    let kept : inside.scalars.len ≡ length c.run_chunk.new.scalars = search rules in
    let same : take inside.scalars.len (c.run_chunk.new.scalars ++ drop (length c.run_chunk.new.scalars) inside.scalars.items) ≡ c.run_chunk.new.scalars =
    take-front inside.scalars.len c.run_chunk.new.scalars (drop (length c.run_chunk.new.scalars) inside.scalars.items) kept in
    let p = err_from_is_err_and c.from_residual.result c.from_residual.ensures.1 in
    rw p.1
    (has-run-none (record { table = c.args.task.now.pred.now; schedule = c.args.schedule.now; chunk = c.args.task.now.chunk }) c.args.task.now.nest.now.loops c.args.task.now.outer c.args.self.now.moment _
    (between (signed inside.main.view.base) c.as_mut_slice.result.now inside.place.steps) (between (signed c.run_chunk.new.main.view.base) c.run_chunk.new.scalars c.run_chunk.new.steps)
    (sym c.requires.outer)
    (ap (λ (a : MachineState). between_at a.moment) (sym c.self.view_is) ∙ ap (λ (xs : List ℤ). between (signed inside.main.view.base) xs inside.place.steps) (sym c.as_mut_slice.ensures.value))
    (ap (λ (xs : List ℤ). between (signed c.run_chunk.new.main.view.base) xs c.run_chunk.new.steps) same)
    c.in_err-end.ensures.ended (ap (λ (a : MachineState). a.moment.store.locals) c.self.view_is) (ap (λ (a : MachineState). a.moment.outer) c.self.view_is))
