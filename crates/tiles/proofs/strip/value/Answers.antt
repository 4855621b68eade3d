use Rattle.std.proofs.Common.{◌<◌, ◌^◌, sym, subst, ℤ, unsigned_abs, length, FitsSigned, w64, arith, rules}
use Rattle.std.specs.Int.{w128}
use Rattle.std.specs.Int.Signed.{nat_abs-le}
use Rattle.std.proofs.lemmas.Int.{to_z-of_z}
use Rattle.affine.specs.Forms.{Affine, value_at}
use Rattle.domain.proofs.CheckLaws.{value-size}
use Rattle.tiles.proofs.strip.value.Goals as goal

pub returns-clause-small : goal.returns-clause-small
returns-clause-small g c =
    let r : FitsSigned w128 c.at.result = search rules in
    let constant : FitsSigned w64 c.form.inside.cst = search rules in
    let few : length c.form.inside.coef < 7 = let told = c.form.told in let h = c.requires.few in omega arith in
    let here : Affine = record { coef = c.form.inside.coef; cst = c.form.inside.cst } in
    let size : unsigned_abs (value_at here c.args.at.now) < 2 ^ 77 = value-size here c.args.at.now c.form.invariant few c.requires.near (nat_abs-le c.form.inside.cst constant.sfits) in
    let whole : unsigned_abs c.at.result < 2 ^ 77 = subst (λ (z : ℤ). unsigned_abs z < 2 ^ 77) (sym c.at.ensures) (subst (λ (f : Affine). unsigned_abs (value_at f c.args.at.now) < 2 ^ 77) c.form.view_is size) in
    simp to_z-of_z whole
