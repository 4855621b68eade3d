use Rattle.std.proofs.Common.{◌∙◌, ap, sym, subst, ◌<◌, length, get_or, List, FitsSigned, w64, lit<, rules, arith}
use Rattle.std.specs.List.{flat_map}
use Rattle.std.proofs.lemmas.Int.{to_z-of_z}
use Rattle.dependence.specs.Systems.{System, IsSystemOf}
use Rattle.dependence.specs.Legality.{trials_of}
use Rattle.legality.specs.Judgements.{first_refusal, refuses, told}
use Rattle.legality.proofs.FirstLaws.{none-more, found-here, none-at-end}
use Rattle.legality.proofs.judging.refused_by_pair.Goals as goal

pub refused_by_system-requires : goal.refused_by_system-requires
refused_by_system-requires g c =
    let t = c.args.pred.now in
    let same = c.deref-system-items.ensures.value in
    let inside : c.loop-system.system-index < length c.in_ok-systems.systems.items = omega (arith, ap length same, c.loop-system-test.true) in
    let of : IsSystemOf t c.system-item.result = subst (IsSystemOf t) (sym c.system-item.is) (subst (λ (xs : List System). IsSystemOf t (get_or xs c.loop-system.system-index c.system-item.result)) (sym same) (c.in_ok-systems.ensures.are c.loop-system.system-index c.system-item.result inside)) in
    (lit< tt, (search rules, (c.requires.table, of)))

pub loop-system-preserved : goal.loop-system-preserved
loop-system-preserved g c =
    let t = c.args.pred.now in
    let s = c.args.schedule.now in
    none-more (refuses t s) (told t s) (trials_of t s) c.deref-system-items.result.now c.loop-system.system-index c.system-item.result c.system-item.result c.in_ok-found.found (omega (arith, c.loop-system-test.true)) (sym c.system-item.is) c.loop-system.invariant c.in_ok-found.ensures (sym c.if-is_some.ensures)

pub returns-then-is_some : goal.returns-then-is_some
returns-then-is_some g c =
    let t = c.args.pred.now in
    let s = c.args.schedule.now in
    let l : FitsSigned w64 c.args.length = search rules in
    found-here (refuses t s) (told t s) (trials_of t s) c.deref-system-items.result.now c.loop-system.system-index c.system-item.result c.system-item.result c.in_ok-found.found (omega (arith, c.loop-system-test.true)) (sym c.system-item.is) c.loop-system.invariant c.in_ok-found.ensures (sym c.if-is_some.ensures)
    ∙ ap (λ (xs : List System). first_refusal t s (flat_map (trials_of t s) xs)) (c.deref-system-items.ensures.value ∙ (simp to_z-of_z at c.in_ok-systems.ensures.value))

pub returns : goal.returns
returns g c =
    let t = c.args.pred.now in
    let s = c.args.schedule.now in
    let l : FitsSigned w64 c.args.length = search rules in
    none-at-end (refuses t s) (told t s) (trials_of t s) c.deref-system-items.result.now c.loop-system.system-index (omega (arith, c.loop-system-test.false)) c.loop-system.invariant
    ∙ ap (λ (xs : List System). first_refusal t s (flat_map (trials_of t s) xs)) (c.deref-system-items.ensures.value ∙ (simp to_z-of_z at c.in_ok-systems.ensures.value))
