use Rattle.std.proofs.Common.{◌≡◌, ◌∙◌, pos, length, FitsSigned, w64, rules, arith}
use Rattle.std.specs.Int.{w128}
use Rattle.std.proofs.lemmas.Int.{to_z-of_z}
use Rattle.std.proofs.lemmas.List.{ext_get_or}
use Rattle.dependence.proofs.FormLaws.{same-form}
use Rattle.dependence.proofs.comparison.Sum.of.Goals as goal

pub returns-clause-value : goal.returns-clause-value
returns-clause-value g c =
    let r : FitsSigned w128 c.widened-2.result = search rules in
    let k : FitsSigned w64 c.form.inside.cst = search rules in
    let told = c.form.told in
    let long = c.loop-place.invariant.long in
    let cst = simp to_z-of_z at c.widened-2.ensures.value in
    let long-2 : length c.loop-place.coef ≡ length c.form.inside.coef = omega (arith, told, long) in
    simp to_z-of_z (same-form _ _ _ _ (ext_get_or (pos 0) c.loop-place.coef c.form.inside.coef long-2 (λ k l. c.loop-place.invariant.values k (omega arith))) cst ∙ c.form.view_is)
