use Rattle.std.proofs.Common.{◌≡◌, ◌-ℤ◌, pos, neg_ℤ, sym, subst, FitsSigned, w64, arith}
use Rattle.std.proofs.lemmas.Int.{fits_signed_from_abs, ints, to_z-of_z}
use Rattle.affine.specs.Inverses.{IsInverse}
use Rattle.affine.specs.Matrices.{skew}
use Rattle.affine.proofs.InverseLaws.{IsInverse-skew}
use Rattle.affine.proofs.unimodular.Unimodular.skew.Goals as goal

pub invariant_of-self : goal.invariant_of-self
invariant_of-self g c =
    let factor = c.ranges.m in
    let turned : pos 0 -ℤ c.args.m ≡ neg_ℤ c.args.m = omega (arith, ints) in
    let fits : FitsSigned w64 (pos 0 -ℤ c.args.m) = fits_signed_from_abs w64 _ (omega (arith, ints, c.requires.factor)) in
    rw (c.skew.ensures, c.skew-2.ensures)
    (simp to_z-of_z
    (subst (λ m. IsInverse g.row.D (skew c.self.inside.matrix c.args.a c.args.b c.args.m) (skew c.self.inside.columns c.args.b c.args.a m)) (sym turned)
    (IsInverse-skew g.row.D c.self.inside.matrix c.self.inside.columns c.args.a c.args.b c.args.m c.requires.first c.requires.second c.requires.different c.self.invariant)))
