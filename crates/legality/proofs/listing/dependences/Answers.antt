use Rattle.std.proofs.Common.{◌≡◌, refl, ◌∙◌, sym, subst, ◌++◌, [], get_or, List, FitsSigned, w64, rules, arith}
use Rattle.std.specs.List.{flat_map}
use Rattle.std.proofs.lemmas.Int.{to_z-of_z}
use Rattle.nest_lang.specs.declared.tree.AccessRef.{AccessRef}
use Rattle.dependence.specs.Systems.{systems_of}
use Rattle.legality.specs.Dependences.{met}
use Rattle.legality.proofs.MetLaws.{more-met, all-met}
use Rattle.legality.proofs.listing.dependences.Goals as goal

pub loop-first-preserved : goal.loop-first-preserved
loop-first-preserved g c =
    let l : FitsSigned w64 c.args.length = search rules in
    let t = c.args.pred.now in
    let items = c.deref-first-items.result.now in
    let none : AccessRef = record { block = 0; access = 0 } in
    simp to_z-of_z
    (more-met t (λ first. flat_map (systems_of t c.args.length first) items) items c.loop-first.first-index (get_or items c.loop-first.first-index none) none [] c.loop-first.found.items c.list_from.new.found.items (omega (arith, c.loop-first-test.true)) refl
    (simp to_z-of_z at c.loop-first.invariant)
    (subst (λ (xs : List AccessRef). c.list_from.new.found.items ≡ c.loop-first.found.items ++ met t (flat_map (systems_of t c.args.length (get_or items c.loop-first.first-index none)) xs)) (c.deref.ensures.value ∙ sym c.deref-first-items.ensures.value) (simp to_z-of_z at c.in_ok-list_from.ensures)))

pub returns : goal.returns
returns g c =
    let l : FitsSigned w64 c.args.length = search rules in
    let t = c.args.pred.now in
    let items = c.deref-first-items.result.now in
    all-met t c.args.length items c.loop-first.found.items c.loop-first.first-index (c.deref-first-items.ensures.value ∙ c.in_ok-refs.ensures.value) (omega (arith, c.loop-first-test.false)) (simp to_z-of_z at c.loop-first.invariant)
