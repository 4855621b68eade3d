use Rattle.std.proofs.Common.{◌*ℤ◌, ◌+ℤ◌, subst, sym, ◌≤◌, ◌+◌, ◌^◌, ℤ, unsigned_abs, arith}
use Rattle.std.specs.Int.{w128}
use Rattle.std.proofs.Math.Facts.{sfits_widen}
use Rattle.std.proofs.lemmas.Int.{fits_signed_from_abs}
use Rattle.dependence.proofs.FormLaws.{product-size, product_plus-size, computed}
use Rattle.dependence.proofs.sums.product_plus.Goals as goal

pub returns-clause-value : goal.returns-clause-value
returns-clause-value c =
    let size = product-size c.args.factor c.args.number c.requires.factor c.requires.number in
    let whole = product_plus-size c.args.factor c.args.number c.args.sum c.requires.factor c.requires.number in
    computed c.args.factor c.args.number c.args.sum c.from.result c.from.ensures c.ranges.factor (sfits_widen tt c.ranges.factor) c.ranges.number c.ranges.sum
    (fits_signed_from_abs w128 (c.args.factor *ℤ c.args.number) (omega (arith, size)))
    (fits_signed_from_abs w128 (c.args.factor *ℤ c.args.number +ℤ c.args.sum) (omega (arith, whole, c.requires.sum)))

pub returns-clause-size : goal.returns-clause-size
returns-clause-size c =
    subst (λ (z : ℤ). unsigned_abs z ≤ 2 ^ 83 + unsigned_abs c.args.sum) (sym (returns-clause-value c)) (product_plus-size c.args.factor c.args.number c.args.sum c.requires.factor c.requires.number)
