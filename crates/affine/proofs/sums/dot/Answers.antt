use Rattle.std.proofs.Common.{◌<◌, ◌^◌, pos, length, get_or, FitsSigned, arith, rules, to_z, w64}
use Rattle.std.specs.Int.{w128}
use Rattle.std.specs.Int.Signed.{nat_abs-le}
use Rattle.std.proofs.lemmas.Int.{fits_signed_from_abs, to_z-of_z}
use Rattle.affine.proofs.SumLaws.{dot-more-is, dot-more-size}
use Rattle.affine.proofs.sums.dot.Goals as goal

pub with_product-sum-requires : goal.with_product-sum-requires
with_product-sum-requires g c =
    let x : FitsSigned w64 (get_or c.args.coef.now c.loop-place.place (pos 0)) = search rules in
    let y : FitsSigned w64 (get_or c.args.point.now c.loop-place.place (pos 0)) = search rules in
    let inside : c.loop-place.place < length c.args.coef.now = omega arith in
    let size = dot-more-size c.args.coef.now c.args.point.now c.loop-place.place (2 ^ 40) (2 ^ 63) (to_z w128 c.loop-place.sum-bits) inside c.requires.small (nat_abs-le (get_or c.args.point.now c.loop-place.place (pos 0)) y.sfits) c.loop-place.invariant.small in
    simp to_z-of_z (fits_signed_from_abs w128 _ (omega (arith, size)))

pub loop-place-preserved : goal.loop-place-preserved
loop-place-preserved g c =
    let x : FitsSigned w64 (get_or c.args.coef.now c.loop-place.place (pos 0)) = search rules in
    let y : FitsSigned w64 (get_or c.args.point.now c.loop-place.place (pos 0)) = search rules in
    let r : FitsSigned w128 c.with_product-sum.result = search rules in
    let inside : c.loop-place.place < length c.args.coef.now = omega arith in
    let within : c.loop-place.place < length c.args.point.now = omega arith in
    let is = simp to_z-of_z at c.with_product-sum.ensures in
    let size = dot-more-size c.args.coef.now c.args.point.now c.loop-place.place (2 ^ 40) (2 ^ 63) (to_z w128 c.loop-place.sum-bits) inside c.requires.small (nat_abs-le (get_or c.args.point.now c.loop-place.place (pos 0)) y.sfits) c.loop-place.invariant.small in
    record {
      value = simp to_z-of_z (dot-more-is c.args.coef.now c.args.point.now c.loop-place.place (to_z w128 c.loop-place.sum-bits) c.with_product-sum.result inside within c.loop-place.invariant.value is);
      small = simp to_z-of_z (rw is size);
    }
