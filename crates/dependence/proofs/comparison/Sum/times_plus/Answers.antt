use Rattle.std.proofs.Common.{◌≡◌, ◌∙◌, sym, ap₂, subst, ◌<◌, ◌≤◌, ◌+◌, ◌^◌, ℤ, pos, ◌+ℤ◌, ◌*ℤ◌, unsigned_abs, length, get_or, map, FitsSigned, w64, rules, arith}
use Rattle.std.specs.Int.{w128}
use Rattle.std.proofs.Math.ListN.{length-set}
use Rattle.std.proofs.lemmas.Int.{to_z-of_z}
use Rattle.std.proofs.lemmas.List.Elements.{All-set}
use Rattle.transform.proofs.LineLaws.{set-more}
use Rattle.affine.specs.Forms.{Affine}
use Rattle.dependence.specs.Legality.{plus}
use Rattle.dependence.specs.Terms.{IsShort}
use Rattle.dependence.proofs.FormLaws.{form_of, same-form, times-plus-is}
use Rattle.dependence.proofs.comparison.Sum.times_plus.Goals as goal

pub loop-place-preserved : goal.loop-place-preserved
loop-place-preserved g c =
    let r : FitsSigned w128 c.product_plus.result = search rules in
    let f : FitsSigned w64 c.args.factor = search rules in
    let x : FitsSigned w128 (get_or c.self.inside.coef c.loop-place.place (pos 0)) = search rules in
    let y : FitsSigned w128 (get_or c.rest.inside.coef c.loop-place.place (pos 0)) = search rules in
    let value = simp to_z-of_z at c.product_plus.ensures.value in
    let size = simp to_z-of_z at c.product_plus.ensures.size in
    let before = c.loop-place.invariant in
    let long = before.long in
    let told = c.rest.told in
    let test = c.loop-place-test.true in
    let room : c.loop-place.place < length c.loop-place.coef = omega (arith, long, test) in
    let inside : c.loop-place.place < length c.rest.inside.coef = omega (arith, told, test) in
    simp to_z-of_z (record {
      long = length-set c.loop-place.coef c.loop-place.place c.product_plus.result ∙ long;
      small = λ most h. All-set (λ (z : ℤ). unsigned_abs z ≤ 2 ^ 83 + most) c.loop-place.coef c.loop-place.place c.product_plus.result
          (let here = h c.loop-place.place (pos 0) inside in omega (arith, here, size)) (before.small most h);
      values = λ k l. set-more c.loop-place.coef c.loop-place.place c.product_plus.result 0 (λ k. c.args.factor *ℤ get_or c.self.inside.coef k (pos 0) +ℤ get_or c.rest.inside.coef k (pos 0)) room value (λ k from l. simp to_z-of_z at (before.values k l)) k (omega arith) l;
    })

pub returns-clause-value : goal.returns-clause-value
returns-clause-value g c =
    let r : FitsSigned w128 c.product_plus-2.result = search rules in
    let f : FitsSigned w64 c.args.factor = search rules in
    let x : FitsSigned w128 c.self.inside.cst = search rules in
    let y : FitsSigned w128 c.rest.inside.cst = search rules in
    let value = simp to_z-of_z at c.product_plus-2.ensures.value in
    let before = c.loop-place.invariant in
    let long = before.long in
    let told = c.rest.told in
    let told-2 = c.self.told in
    let first : length c.loop-place.coef ≡ length c.rest.inside.coef = omega (arith, long, told) in
    let second : length c.self.inside.coef ≡ length c.rest.inside.coef = omega (arith, told, told-2) in
    simp to_z-of_z (same-form _ _ _ _ (times-plus-is c.args.factor c.loop-place.coef c.self.inside.coef c.rest.inside.coef first second (λ k l. simp to_z-of_z at (before.values k (omega (arith, l, told, c.loop-place-test.false))))) value
    ∙ ap₂ (λ (p q : Affine). form_of (plus (map (λ (z : ℤ). c.args.factor *ℤ z) p.coef) q.coef) (c.args.factor *ℤ p.cst +ℤ q.cst)) c.self.view_is c.rest.view_is)

pub returns-clause-short : goal.returns-clause-short
returns-clause-short g c = λ most h.
    let r : FitsSigned w128 c.product_plus-2.result = search rules in
    let y : FitsSigned w128 c.rest.inside.cst = search rules in
    let size = simp to_z-of_z at c.product_plus-2.ensures.size in
    let k : IsShort most (form_of c.rest.inside.coef c.rest.inside.cst) = subst (IsShort most) (sym c.rest.view_is) h in
    let cst = k.cst in
    simp to_z-of_z (record { coef = c.loop-place.invariant.small most k.coef; cst = omega (arith, size, cst) })
