use Rattle.std.proofs.Common.{◌∙◌, ap, sym, pos}
use Rattle.std.specs.Option.{option_and_then}
use Rattle.transform.specs.Drafts.{drafted_all, new_draft}
use Rattle.transform.specs.Standards.{skews, tiles}
use Rattle.transform.proofs.StandardLaws.{drafted_all-append}
use Rattle.transform.proofs.standards.skewed.Goals as goal

pub returns-in_err-draft : goal.returns-in_err-draft
returns-in_err-draft g c =
    let made = ap (λ d. drafted_all g.row.D d (skews g.row.D)) (sym c.new.ensures) ∙ sym c.in_err-draft.ensures in
    c.from_residual.ensures
    ∙ sym (drafted_all-append g.row.D (new_draft g.row.D) (skews g.row.D) (tiles 1 g.row.D (pos 4)) ∙ ap (option_and_then (λ next. drafted_all g.row.D next (tiles 1 g.row.D (pos 4)))) made)

pub returns : goal.returns
returns g c =
    let made = ap (λ d. drafted_all g.row.D d (skews g.row.D)) (sym c.new.ensures) ∙ sym c.in_ok-draft.ensures in
    c.tiled.ensures
    ∙ sym (drafted_all-append g.row.D (new_draft g.row.D) (skews g.row.D) (tiles 1 g.row.D (pos 4)) ∙ ap (option_and_then (λ next. drafted_all g.row.D next (tiles 1 g.row.D (pos 4)))) made)
