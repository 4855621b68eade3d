use Rattle.std.proofs.Common.{◌≤◌, ◌∙◌, ap, sym, arith}
use Rattle.std.specs.Option.{option_and_then}
use Rattle.transform.specs.Drafts.{drafted_all, new_draft}
use Rattle.transform.specs.Standards.{standard_script}
use Rattle.transform.proofs.StandardLaws.{script-first, script-second}
use Rattle.transform.proofs.standards.standard_draft.Goals as goal

pub returns-in-1-number : goal.returns-in-1-number
returns-in-1-number g c =
    let script = ap (standard_script g.row.D) c.in-1-number.is ∙ script-first g.row.D c.requires.some in
    c.first_parallel-in-1-number.ensures ∙ sym (ap (option_and_then (drafted_all g.row.D (new_draft g.row.D))) script)

pub returns-in-2-number : goal.returns-in-2-number
returns-in-2-number g c =
    let many : 2 ≤ g.row.D = omega (arith, c.requires.some, c.if-this-eq1.false) in
    let script = ap (standard_script g.row.D) c.in-2-number.is ∙ script-second g.row.D many in
    c.second_parallel.ensures ∙ sym (ap (option_and_then (drafted_all g.row.D (new_draft g.row.D))) script)
