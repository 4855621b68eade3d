use Rattle.std.proofs.Common.{◌≡◌, ◌<◌, ◌^◌, sym, ap, ap₂, ◌∙◌, subst, ℤ, ◌+ℤ◌, ◌-ℤ◌, unsigned_abs, length, FitsSigned, w64, arith, rules}
use Rattle.std.specs.Int.{w128}
use Rattle.std.specs.Int.Signed.{nat_abs-le}
use Rattle.std.proofs.lemmas.Int.{to_z-of_z}
use Rattle.affine.specs.Forms.{Affine, value_at}
use Rattle.tiles.specs.declared.strip.Strip.{Strip}
use Rattle.tiles.specs.Strips.{IsNear, form_strip}
use Rattle.tiles.proofs.NearLaws.{first-small, step-of, strip-near, strip-step}
use Rattle.tiles.proofs.strip.Strip.about.Goals as goal

pub value-requires : goal.value-requires
value-requires g c = (search rules, (search rules, (c.requires.few, first-small c.args.at.now c.args.step.now c.args.count c.requires.small)))

pub returns-clause-is : goal.returns-clause-is
returns-clause-is g c =
    let value : FitsSigned w128 c.value.result = search rules in
    let other : FitsSigned w128 c.value-2.result = search rules in
    let offset : FitsSigned w64 c.args.offset = search rules in
    let cst : FitsSigned w64 c.form.inside.cst = search rules in
    let one : FitsSigned w128 c.plus-first.result = search rules in
    let two : FitsSigned w128 c.minus-step.result = search rules in
    let first : c.plus-first.result ≡ c.value.result +ℤ c.args.offset = simp to_z-of_z at c.plus-first.ensures in
    let step : c.minus-step.result ≡ c.value-2.result -ℤ c.form.inside.cst = simp to_z-of_z at c.minus-step.ensures in
    simp to_z-of_z (ap₂ (λ (a b : ℤ). record { first = a; step = b; count = c.args.count })
    (first ∙ ap (λ (z : ℤ). z +ℤ c.args.offset) c.value.ensures.value)
    (step ∙ ap (λ (z : ℤ). z -ℤ c.form.inside.cst) c.value-2.ensures.value
    ∙ ap (λ (f : Affine). value_at c.args.form.now c.args.step.now -ℤ f.cst) c.form.view_is ∙ step-of c.args.form.now c.args.step.now))

pub returns-clause-near : goal.returns-clause-near
returns-clause-near g c =
    let cst : FitsSigned w64 c.form.inside.cst = search rules in
    let here : Affine = record { coef = c.form.inside.coef; cst = c.form.inside.cst } in
    let few : length c.form.inside.coef < 7 = let told = c.form.told in let h = c.requires.few in omega arith in
    let near = strip-near here c.args.at.now c.args.step.now c.args.count c.args.offset c.form.invariant few (nat_abs-le c.form.inside.cst cst.sfits) c.requires.near c.requires.small in
    subst IsNear (sym (returns-clause-is g c)) (subst (λ (f : Affine). IsNear (form_strip f c.args.at.now c.args.step.now c.args.count c.args.offset)) c.form.view_is near)

pub returns-clause-step : goal.returns-clause-step
returns-clause-step g c =
    let here : Affine = record { coef = c.form.inside.coef; cst = c.form.inside.cst } in
    let few : length c.form.inside.coef < 7 = let told = c.form.told in let h = c.requires.few in omega arith in
    let small = strip-step here c.args.at.now c.args.step.now c.args.count c.form.invariant few c.requires.small in
    subst (λ (s : Strip). unsigned_abs s.step < 2 ^ 63) (sym (returns-clause-is g c))
    (subst (λ (f : Affine). unsigned_abs (form_strip f c.args.at.now c.args.step.now c.args.count c.args.offset).step < 2 ^ 63) c.form.view_is small)
