use Rattle.std.proofs.Common.{◌≡◌, ◌^◌, ℤ, ◌+ℤ◌, ◌*ℤ◌, FitsSigned, lit<, to_z, of_z, w64}
use Rattle.std.proofs.Math.Facts.{sfits_widen}
use Rattle.std.specs.Int.{w128}
use Rattle.std.specs.Int.Signed.{nat_abs-le}
use Rattle.std.proofs.lemmas.Int.{fits_signed_mul, to_z-of_z}
use Rattle.affine.proofs.sums.with_product.Goals as goal

-- the sum as it is computed, where each part fits
computed : (s x y a b : ℤ) → a ≡ to_z w64 (of_z w64 x) → b ≡ to_z w64 (of_z w64 y) → FitsSigned w64 x → FitsSigned w64 y → FitsSigned w128 s → FitsSigned w128 x → FitsSigned w128 y → FitsSigned w128 (x *ℤ y) → FitsSigned w128 (s +ℤ x *ℤ y) → to_z w128 (of_z w128 (to_z w128 (of_z w128 s) +ℤ to_z w128 (of_z w128 (to_z w128 (of_z w128 a) *ℤ to_z w128 (of_z w128 b))))) ≡ s +ℤ x *ℤ y
computed s x y a b d e wx wy fs fx fy product sum = rw (d, e) (simp to_z-of_z)

pub returns : goal.returns
returns c =
    computed _ _ _ _ _ c.from.ensures c.from-2.ensures c.ranges.x c.ranges.y c.ranges.sum (sfits_widen tt c.ranges.x) (sfits_widen tt c.ranges.y) (fits_signed_mul w128 c.args.x c.args.y (2 ^ 63) (2 ^ 63) (nat_abs-le c.args.x c.ranges.x.sfits) (nat_abs-le c.args.y c.ranges.y.sfits) (lit< tt)) c.requires
