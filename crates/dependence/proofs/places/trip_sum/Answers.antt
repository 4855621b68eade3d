use Rattle.std.proofs.Common.{◌∙◌, sym, ap, ap₂, ◌^◌}
use Rattle.affine.specs.Forms.{Affine}
use Rattle.domain.specs.Tables.{Level, cut, form_or_zero}
use Rattle.dependence.proofs.FormLaws.{form_of}
use Rattle.dependence.proofs.places.trip_sum.Goals as goal

pub returns-clause-value : goal.returns-clause-value
returns-clause-value g c =
    c.cut.ensures.value
    ∙ ap (λ (f : Affine). form_of (cut c.args.around f.coef) f.cst)
    (c.form_or_zero.ensures.value ∙ ap₂ form_or_zero (sym c.requires.table.deep) (ap (λ (l : Level). l.trip) (c.behind-pred.view_is ∙ c.level.ensures.level)))

pub returns-clause-short : goal.returns-clause-short
returns-clause-short g c = c.cut.ensures.short (2 ^ 63) c.form_or_zero.ensures.short
