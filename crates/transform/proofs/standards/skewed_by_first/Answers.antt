use Rattle.std.proofs.Common.{◌+◌, ◌∙◌, ap, sym, pos}
use Rattle.nest_lang.specs.declared.command.Command.TheVariants.{Skew}
use Rattle.transform.specs.Drafts.{drafted_all}
use Rattle.transform.proofs.ScriptLaws.{drafted_all-goes, drafted_all-gone}
use Rattle.transform.proofs.StandardLaws.{skews_from, skews-from-step}
use Rattle.transform.proofs.standards.skewed_by_first.Goals as goal

pub returns-in_err-apply : goal.returns-in_err-apply
returns-in_err-apply g c =
    let row = c.loop-row.row in
    let step = skews-from-step row g.row.D c.loop-row-test.true in
    c.from_residual.ensures
    ∙ sym (c.loop-row.invariant ∙ ap (drafted_all g.row.D c.loop-row.draft) step ∙ drafted_all-gone g.row.D c.loop-row.draft (Skew (row + 1) 1 (pos 1)) (skews_from (row + 1) g.row.D) c.in_err-apply.ensures)

pub loop-row-preserved : goal.loop-row-preserved
loop-row-preserved g c =
    let row = c.loop-row.row in
    let step = skews-from-step row g.row.D c.loop-row-test.true in
    c.loop-row.invariant ∙ ap (drafted_all g.row.D c.loop-row.draft) step ∙ drafted_all-goes g.row.D c.loop-row.draft c.apply.new.self (Skew (row + 1) 1 (pos 1)) (skews_from (row + 1) g.row.D) c.in_ok-apply.ensures
