use Rattle.std.proofs.Common.{◌∙◌, sym, refl, ap, ◌≤◌, ℤ, pos, unsigned_abs, FitsSigned, rules, arith}
use Rattle.std.specs.Int.{w128}
use Rattle.std.proofs.Math.ListN.{length-set}
use Rattle.std.proofs.lemmas.Int.{to_z-of_z}
use Rattle.std.proofs.lemmas.List.Elements.{All-set}
use Rattle.affine.specs.Forms.{Affine}
use Rattle.domain.specs.Tables.{cut}
use Rattle.domain.proofs.PointLaws.{cut-set-after, zeros-more, cut-same}
use Rattle.dependence.proofs.FormLaws.{form_of, same-form}
use Rattle.dependence.proofs.comparison.Sum.cut.Goals as goal

pub loop-place-preserved : goal.loop-place-preserved
loop-place-preserved g c =
    let before = c.loop-place.invariant in
    record {
      long = length-set c.loop-place.coef c.loop-place.place (pos 0) ∙ before.long;
      small = λ most h. All-set (λ (z : ℤ). unsigned_abs z ≤ most) c.loop-place.coef c.loop-place.place (pos 0) (omega arith) (before.small most h);
      same = cut-set-after c.args.places c.loop-place.place (pos 0) c.loop-place.coef c.loop-place.auto.place ∙ before.same;
      zeros = zeros-more c.args.places c.loop-place.place c.loop-place.coef before.zeros;
    }

pub returns-clause-value : goal.returns-clause-value
returns-clause-value g c =
    let k : FitsSigned w128 c.self.inside.cst = search rules in
    let before = c.loop-place.invariant in
    let long = before.long in
    simp to_z-of_z (same-form _ _ _ _ (sym (cut-same c.args.places c.loop-place.coef (λ k from to. before.zeros k from (omega arith))) ∙ before.same) refl
    ∙ ap (λ (f : Affine). form_of (cut c.args.places f.coef) f.cst) c.self.view_is)
