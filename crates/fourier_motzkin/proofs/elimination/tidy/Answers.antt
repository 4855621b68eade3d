use Rattle.std.proofs.Common.{◌∙◌, List, [], ap}
use Rattle.std.proofs.lemmas.List.{take_all}
use Rattle.affine.specs.declared.row.Row.{Row}
use Rattle.fourier_motzkin.specs.RowSets.{with_rows}
use Rattle.fourier_motzkin.proofs.EliminationLaws.{judged-tidied}
use Rattle.fourier_motzkin.proofs.elimination.tidy.Goals as goal

pub returns : goal.returns
returns c =
    let made = c.in_ok-into_rows.ensures ∙ c.loop-row.invariant ∙ ap (λ (rows : List Row). with_rows [] rows) (take_all c.loop-row.row-index c.args.rows.now c.loop-row-test.false) in
    c.judged.ensures ∙ judged-tidied c.args.rows.now c.in_ok-into_rows.field-0.items made
