use Rattle.std.proofs.Common.{◌∙◌, Some, ap, sym}
use Rattle.std.specs.Prelude.{option_map}
use Rattle.transform.specs.Drafts.{Draft}
use Rattle.transform.specs.Scripts.{schedule_from}
use Rattle.transform.proofs.StandardLaws.{standard-drafted}
use Rattle.transform.proofs.standards.standard.Goals as goal

pub returns-in_err-draft : goal.returns-in_err-draft
returns-in_err-draft g c =
    c.from_residual.ensures ∙ sym (standard-drafted g.row.D c.args.number ∙ ap (option_map (λ (d : Draft). schedule_from d.parts)) (sym c.in_err-draft.ensures))

pub returns : goal.returns
returns g c =
    ap Some c.finish.ensures ∙ sym (standard-drafted g.row.D c.args.number ∙ ap (option_map (λ (d : Draft). schedule_from d.parts)) (sym c.in_ok-draft.ensures))
