use Rattle.std.proofs.Common.{◌≡◌, ℤ, ◌+ℤ◌, ◌*ℤ◌, FitsSigned, to_z, of_z, w64}
use Rattle.std.proofs.Math.Facts.{sfits_widen}
use Rattle.std.specs.Int.{w128}
use Rattle.std.proofs.lemmas.Int.{to_z-of_z}
use Rattle.fourier_motzkin.proofs.SizeLaws.{sum-fits, product-fits}
use Rattle.fourier_motzkin.proofs.range.with_product.Goals as goal

computed : (s x y b : ℤ) → b ≡ to_z w64 (of_z w64 y) → FitsSigned w64 y → FitsSigned w128 s → FitsSigned w128 x → FitsSigned w128 y → FitsSigned w128 (x *ℤ y) → FitsSigned w128 (s +ℤ x *ℤ y) → to_z w128 (of_z w128 (to_z w128 (of_z w128 s) +ℤ to_z w128 (of_z w128 (to_z w128 (of_z w128 x) *ℤ to_z w128 (of_z w128 b))))) ≡ s +ℤ x *ℤ y
computed s x y b e wy fs fx fy product sum = rw e (simp to_z-of_z)

pub returns : goal.returns
returns c =
    computed _ _ _ _ c.from.ensures c.ranges.value c.ranges.sum c.ranges.number (sfits_widen tt c.ranges.value)
    (product-fits c.args.number c.args.value c.requires.number c.requires.value)
    (sum-fits c.args.sum c.args.number c.args.value c.requires.sum c.requires.number c.requires.value)
