use Rattle.std.proofs.Common.{◌<◌, ◌^◌, refl, arith}
use Rattle.std.specs.Int.{w128}
use Rattle.std.proofs.lemmas.Int.{fits_signed_from_abs, to_z_pos}
use Rattle.affine.proofs.DivisorLaws.{common_divisor-≤}
use Rattle.affine.proofs.row.Row.divisor.Goals as goal

pub overflow_cast-result : goal.overflow_cast-result
overflow_cast-result c =
    let small = common_divisor-≤ c.args.self.now.coef.items (2 ^ 126) c.requires in
    let same = rw c.as_slice.ensures.value at c.greatest_divisor.ensures in
    fits_signed_from_abs w128 _ (omega (arith, small, same, c.max.ensures))

pub returns : goal.returns
returns c =
    let small = common_divisor-≤ c.args.self.now.coef.items (2 ^ 126) c.requires in
    let same = rw c.as_slice.ensures.value at c.greatest_divisor.ensures in
    let fits : c.max.result < 2 ^ 127 = omega (arith, small, same, c.max.ensures) in
    rw (to_z_pos w128 c.max.result fits, c.max.ensures, same) refl
