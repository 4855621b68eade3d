use Rattle.std.proofs.Common.{refl, ◌∙◌, ap, sym, FitsSigned, w64, rules, arith}
use Rattle.std.specs.List.{flat_map}
use Rattle.std.proofs.lemmas.Int.{to_z-of_z}
use Rattle.dependence.specs.Systems.{systems_of}
use Rattle.dependence.specs.Legality.{trials_of}
use Rattle.legality.specs.Judgements.{first_refusal, refuses, told}
use Rattle.legality.proofs.FirstLaws.{none-more, found-here, none-at-end}
use Rattle.legality.proofs.RefusalLaws.{flat_map-flat_map}
use Rattle.legality.proofs.judging.refused_from.Goals as goal

pub loop-second-preserved : goal.loop-second-preserved
loop-second-preserved g c =
    let l : FitsSigned w64 c.args.length = search rules in
    let t = c.args.pred.now in
    let s = c.args.schedule.now in
    simp to_z-of_z (none-more (refuses t s) (told t s) (λ second. flat_map (trials_of t s) (systems_of t c.args.length c.args.first second)) c.args.refs.now c.loop-second.second-index _ _ c.in_ok-found.found (omega (arith, c.loop-second-test.true)) refl (simp to_z-of_z at c.loop-second.invariant) (simp to_z-of_z at c.in_ok-found.ensures) (sym c.if-is_some.ensures))

pub returns-then-is_some : goal.returns-then-is_some
returns-then-is_some g c =
    let l : FitsSigned w64 c.args.length = search rules in
    let t = c.args.pred.now in
    let s = c.args.schedule.now in
    found-here (refuses t s) (told t s) (λ second. flat_map (trials_of t s) (systems_of t c.args.length c.args.first second)) c.args.refs.now c.loop-second.second-index _ _ c.in_ok-found.found (omega (arith, c.loop-second-test.true)) refl (simp to_z-of_z at c.loop-second.invariant) (simp to_z-of_z at c.in_ok-found.ensures) (sym c.if-is_some.ensures)
    ∙ ap (first_refusal t s) (sym (flat_map-flat_map (trials_of t s) (systems_of t c.args.length c.args.first) c.args.refs.now))

pub returns : goal.returns
returns g c =
    let l : FitsSigned w64 c.args.length = search rules in
    let t = c.args.pred.now in
    let s = c.args.schedule.now in
    none-at-end (refuses t s) (told t s) (λ second. flat_map (trials_of t s) (systems_of t c.args.length c.args.first second)) c.args.refs.now c.loop-second.second-index (omega (arith, c.loop-second-test.false)) (simp to_z-of_z at c.loop-second.invariant)
    ∙ ap (first_refusal t s) (sym (flat_map-flat_map (trials_of t s) (systems_of t c.args.length c.args.first) c.args.refs.now))
