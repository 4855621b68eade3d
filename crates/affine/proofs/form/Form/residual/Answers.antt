use Rattle.std.proofs.Common.{◌≡◌, ◌<◌, ◌^◌, subst, FitsSigned, ◌+ℤ◌, ◌-ℤ◌, unsigned_abs, w64, rules, arith}
use Rattle.std.specs.Int.{w128}
use Rattle.std.specs.Int.Signed.{nat_abs-le}
use Rattle.std.proofs.lemmas.Int.{ints, fits_signed_from_abs, to_z-of_z}
use Rattle.plain_lemmas.proofs.IntegerLaws.{unsigned_abs-add}
use Rattle.affine.proofs.form.Form.residual.Goals as goal

pub plus-requires : goal.plus-requires
plus-requires g c =
    let constant : FitsSigned w64 c.self.inside.cst = search rules in
    let sum : FitsSigned w128 c.dot-products.result = search rules in
    let size = nat_abs-le c.self.inside.cst constant.sfits in
    let both = unsigned_abs-add c.dot-products.result c.self.inside.cst in
    simp to_z-of_z (fits_signed_from_abs w128 (c.dot-products.result +ℤ c.self.inside.cst) (omega (arith, size, both, c.dot-products.ensures.size)))
