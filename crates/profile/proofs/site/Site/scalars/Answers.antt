use Rattle.std.proofs.Common.{subst, ℕ, Option, None, get_or, pos, arith}
use Rattle.std.specs.Prelude.{List, map}
use Rattle.std.specs.List.{range_with_len}
use Rattle.affine.specs.Forms.{Affine}
use Rattle.domain.specs.declared.prediction.What.TheVariants.{Scalar}
use Rattle.profile.specs.Data.{tube_about}
use Rattle.profile.specs.Fits.{HasFitAt}
use Rattle.profile.specs.Parts.{IsEndIn}
use Rattle.profile.proofs.EndLaws.{handed-on, ranged-end}
use Rattle.profile.proofs.site.Site.scalars.Goals as goal

pub returns-in_err-line : goal.returns-in_err-line
returns-in_err-line g c =
    let o = c.args.samples.now in
    let s = c.args.self in
    let n = c.loop-number.number in
    let forms : List (Option Affine) = c.loop-number.forms.items in
    let each = c.loop-number.invariant.each in
    let within = c.loop-number-test.true in
    handed-on c.from_residual.result _ (IsEndIn g.row.D o s.rank s.block (map (λ (k : ℕ). Scalar k) (range_with_len 0 c.args.count))) c.in_err-line.field-0.0 c.from_residual.ensures
    (ranged-end g.row.D o s.rank s.block (λ (k : ℕ). Scalar k) 0 c.args.count n n c.in_err-line.field-0.0 within (omega arith)
    (λ k l. (tube_about (get_or forms k None) (pos 0) (pos 0), subst (λ (j : ℕ). HasFitAt g.row.D o s.block (Scalar j) (tube_about (get_or forms k None) (pos 0) (pos 0))) (omega arith) (each k l))) c.in_err-line.ensures)
