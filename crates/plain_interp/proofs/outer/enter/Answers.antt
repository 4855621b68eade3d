use Rattle.std.proofs.Common.{rules, refl, ap, sym, ◌∙◌, ◌≡◌, pos, Some, FitsSigned, w64, to_z, of_z}
use Rattle.std.proofs.lemmas.Int.{to_z-of_z}
use Rattle.nest_lang.specs.declared.state.Outer.{Outer}
use Rattle.nest_lang.specs.Loops.{outside}
use Rattle.block_exec.specs.Runs as run
use Rattle.plain_interp.proofs.LevelLaws.{stride-not-0, head-at}
use Rattle.plain_interp.proofs.PositionLaws.{loops_keep-found, loops_keep-strides, position-entered, entry-for, entered-trapped}
use Rattle.plain_interp.proofs.outer.enter.Goals as goal

pub unreachable-requires : goal.unreachable-requires
unreachable-requires g c = loops_keep-found c.args.nest.now.loops (rw c.in_default.is at c.get.ensures.value) c.requires.rules

pub bounds-requires-clause-stride : goal.bounds-requires-clause-stride
bounds-requires-clause-stride g c = λ zero.
    let stride : FitsSigned w64 c.in-For.stride = search rules in
    let same : to_z w64 (of_z w64 c.in-For.stride) ≡ c.in-For.stride = to_z-of_z w64 c.in-For.stride stride in
    stride-not-0 _ _ _ _ c.in-For.is (loops_keep-strides c.args.nest.now.loops c.in-Some.first.now (rw c.in-Some.is at c.get.ensures.value) c.requires.rules) (sym same ∙ zero)

pub returns-in-Ok-clause-entry : goal.returns-in-Ok-clause-entry
returns-in-Ok-clause-entry g c =
    let x = g.P.Port.expects c.args.run.now.port.now in
    let stride : FitsSigned w64 c.in-For.stride = search rules in
    let lower : FitsSigned w64 c.in-Ok.bounds.lower = search rules in
    let head = head-at g.W.Watch.may c.site.result _ x x 1 outside outside _ c.in-Some.first.now.head (run.outside g.P.Port.memory c.args.run.now) (run.outside g.P.Port.memory c.bounds.new.self) _ c.site.ensures refl refl refl (sym c.in-For.is) (simp to_z-of_z at c.in-Ok.ensures.evaluated) in
    entry-for g.W.Watch.may c.args.nest.now.loops c.in-Some.first.now _ _ c.in-For.stride x _ _ _ _ (rw c.in-Some.is at c.get.ensures.value) c.in-For.is head (simp to_z-of_z refl)

pub returns-in-Ok-clause-position : goal.returns-in-Ok-clause-position
returns-in-Ok-clause-position g c = λ outer entered.
    let stride : FitsSigned w64 c.in-For.stride = search rules in
    let lower : FitsSigned w64 c.in-Ok.bounds.lower = search rules in
    let same : c.in-Ok.bounds.stride ≡ c.in-For.stride = simp to_z-of_z at c.in-Ok.ensures.turns.0 in
    let at : record { lower = c.in-Ok.bounds.lower; next = pos 0; left = Some c.in-Ok.bounds.trip } ≡ outer = let h = simp to_z-of_z at entered in cc in (
      position-entered c.args.nest.now.loops c.in-Some.first.now _ _ c.in-For.stride c.in-Ok.bounds outer (rw c.in-Some.is at c.get.ensures.value) c.in-For.is same c.in-Ok.ensures.turns.1 at,
      ap (λ (o : Outer). o.next) (sym at),
    )

pub returns-in-Err-Halted-clause-entry : goal.returns-in-Err-Halted-clause-entry
returns-in-Err-Halted-clause-entry g c =
    let x = g.P.Port.expects c.args.run.now.port.now in
    let stride : FitsSigned w64 c.in-For.stride = search rules in
    let head = head-at g.W.Watch.may c.site.result _ x x 1 outside outside _ c.in-Some.first.now.head (run.outside g.P.Port.memory c.args.run.now) (run.outside g.P.Port.memory c.bounds.new.self) _ c.site.ensures refl refl refl (sym c.in-For.is) (simp to_z-of_z at (rw c.in-Err-Halted.field-0-is at c.in-Err-Halted.ensures.evaluated)) in
    entry-for g.W.Watch.may c.args.nest.now.loops c.in-Some.first.now _ _ c.in-For.stride x _ _ _ _ (rw c.in-Some.is at c.get.ensures.value) c.in-For.is head (entered-trapped c.bounds.new.self.halt c.trap.result c.trap.ensures)

pub returns-in-Err-Limited-clause-entry : goal.returns-in-Err-Limited-clause-entry
returns-in-Err-Limited-clause-entry g c =
    let x = g.P.Port.expects c.args.run.now.port.now in
    let stride : FitsSigned w64 c.in-For.stride = search rules in
    let head = head-at g.W.Watch.may c.site.result _ x x 1 outside outside _ c.in-Some.first.now.head (run.outside g.P.Port.memory c.args.run.now) (run.outside g.P.Port.memory c.bounds.new.self) _ c.site.ensures refl refl refl (sym c.in-For.is) (simp to_z-of_z at (rw c.in-Err-Limited.field-0-is at c.in-Err-Limited.ensures.evaluated)) in
    entry-for g.W.Watch.may c.args.nest.now.loops c.in-Some.first.now _ _ c.in-For.stride x _ _ _ _ (rw c.in-Some.is at c.get.ensures.value) c.in-For.is head refl
