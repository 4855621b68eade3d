use Rattle.std.proofs.Common.{◌≡◌, ◌∙◌, ap, List, take, FitsSigned, w64, rules, arith}
use Rattle.std.specs.List.{flat_map}
use Rattle.std.proofs.lemmas.Int.{to_z-of_z}
use Rattle.std.proofs.lemmas.List.{take_all}
use Rattle.nest_lang.specs.declared.tree.AccessRef.{AccessRef}
use Rattle.dependence.specs.Systems.{systems, systems_of}
use Rattle.dependence.proofs.pairs.systems.Goals as goal

pub returns : goal.returns
unfolding systems
returns g c =
    let l : FitsSigned w64 c.args.length = search rules in
    let items = c.deref-first-items.result.now in
    let same : items ≡ c.in_ok-refs.refs.items = c.deref-first-items.ensures.value in
    let whole : take c.loop-first.first-index items ≡ items = take_all c.loop-first.first-index items (omega (arith, c.loop-first-test.false)) in
    (simp to_z-of_z at c.loop-first.invariant)
    ∙ ap (λ (xs : List AccessRef). flat_map (λ first. flat_map (systems_of c.args.pred.now c.args.length first) items) xs) whole
    ∙ ap (λ (xs : List AccessRef). flat_map (λ first. flat_map (systems_of c.args.pred.now c.args.length first) xs) xs) (same ∙ c.in_ok-refs.ensures.value)
