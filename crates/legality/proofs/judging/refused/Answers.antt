use Rattle.std.proofs.Common.{◌≡◌, refl, ◌∙◌, ap, sym, subst, get_or, List, FitsSigned, w64, rules, arith}
use Rattle.std.specs.List.{flat_map}
use Rattle.std.proofs.lemmas.Int.{to_z-of_z}
use Rattle.dependence.specs.Systems.{systems_of}
use Rattle.dependence.specs.Legality.{trials_of}
use Rattle.legality.specs.Judgements.{first_refusal, refuses, told}
use Rattle.legality.proofs.FirstLaws.{none-more, found-here, none-at-end}
use Rattle.legality.proofs.RefusalLaws.{refused-is}
use Rattle.nest_lang.specs.declared.tree.AccessRef.{AccessRef}
use Rattle.dependence.specs.Systems.{refs}
use Rattle.legality.proofs.judging.refused.Goals as goal

pub loop-first-preserved : goal.loop-first-preserved
loop-first-preserved g c =
    let l : FitsSigned w64 c.args.length = search rules in
    let t = c.args.pred.now in
    let s = c.args.schedule.now in
    let items = c.deref-first-items.result.now in
    let here : c.in_ok-found.found ≡ first_refusal t s (flat_map (trials_of t s) (flat_map (systems_of t c.args.length (get_or items c.loop-first.first-index (record { block = 0; access = 0 }))) items)) = subst (λ (xs : List AccessRef). c.in_ok-found.found ≡ first_refusal t s (flat_map (trials_of t s) (flat_map (systems_of t c.args.length (get_or items c.loop-first.first-index (record { block = 0; access = 0 }))) xs))) (c.deref.ensures.value ∙ sym c.deref-first-items.ensures.value) (simp to_z-of_z at c.in_ok-found.ensures) in
    simp to_z-of_z (none-more (refuses t s) (told t s) (λ first. flat_map (trials_of t s) (flat_map (systems_of t c.args.length first) items)) items c.loop-first.first-index (get_or items c.loop-first.first-index (record { block = 0; access = 0 })) (record { block = 0; access = 0 }) c.in_ok-found.found (omega (arith, c.loop-first-test.true)) refl (simp to_z-of_z at c.loop-first.invariant) here (sym c.if-is_some.ensures))

pub returns-then-is_some : goal.returns-then-is_some
returns-then-is_some g c =
    let l : FitsSigned w64 c.args.length = search rules in
    let t = c.args.pred.now in
    let s = c.args.schedule.now in
    let items = c.deref-first-items.result.now in
    let same : items ≡ refs t = c.deref-first-items.ensures.value ∙ c.in_ok-refs.ensures.value in
    let here : c.in_ok-found.found ≡ first_refusal t s (flat_map (trials_of t s) (flat_map (systems_of t c.args.length (get_or items c.loop-first.first-index (record { block = 0; access = 0 }))) items)) = subst (λ (xs : List AccessRef). c.in_ok-found.found ≡ first_refusal t s (flat_map (trials_of t s) (flat_map (systems_of t c.args.length (get_or items c.loop-first.first-index (record { block = 0; access = 0 }))) xs))) (c.deref.ensures.value ∙ sym c.deref-first-items.ensures.value) (simp to_z-of_z at c.in_ok-found.ensures) in
    found-here (refuses t s) (told t s) (λ first. flat_map (trials_of t s) (flat_map (systems_of t c.args.length first) items)) items c.loop-first.first-index (get_or items c.loop-first.first-index (record { block = 0; access = 0 })) (record { block = 0; access = 0 }) c.in_ok-found.found (omega (arith, c.loop-first-test.true)) refl (simp to_z-of_z at c.loop-first.invariant) here (sym c.if-is_some.ensures)
    ∙ ap (λ (xs : List AccessRef). first_refusal t s (flat_map (λ first. flat_map (trials_of t s) (flat_map (systems_of t c.args.length first) xs)) xs)) same
    ∙ refused-is t s c.args.length

pub returns : goal.returns
returns g c =
    let l : FitsSigned w64 c.args.length = search rules in
    let t = c.args.pred.now in
    let s = c.args.schedule.now in
    let items = c.deref-first-items.result.now in
    let same : items ≡ refs t = c.deref-first-items.ensures.value ∙ c.in_ok-refs.ensures.value in
    none-at-end (refuses t s) (told t s) (λ first. flat_map (trials_of t s) (flat_map (systems_of t c.args.length first) items)) items c.loop-first.first-index (omega (arith, c.loop-first-test.false)) (simp to_z-of_z at c.loop-first.invariant)
    ∙ ap (λ (xs : List AccessRef). first_refusal t s (flat_map (λ first. flat_map (trials_of t s) (flat_map (systems_of t c.args.length first) xs)) xs)) same
    ∙ refused-is t s c.args.length
