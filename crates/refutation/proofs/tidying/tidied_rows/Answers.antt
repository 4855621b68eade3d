use Rattle.std.proofs.Common.{◌≡◌, ◌∙◌, List, [], ap, subst}
use Rattle.std.specs.Prelude.{IfOk}
use Rattle.std.proofs.lemmas.List.{take_all}
use Rattle.affine.specs.declared.row.Row.{Row}
use Rattle.fourier_motzkin.specs.RowSets.{tidied, with_rows}
use Rattle.fourier_motzkin.proofs.SetLaws.{with_rows-is}
use Rattle.refutation.proofs.tidying.tidied_rows.Goals as goal

pub returns : goal.returns
returns c =
    let made : c.loop-row.set ≡ tidied c.args.rows.now =
    c.loop-row.invariant ∙ ap (λ (rows : List Row). with_rows [] rows) (take_all c.loop-row.row-index c.args.rows.now c.loop-row-test.false) ∙ with_rows-is c.args.rows.now in
    subst (λ (rows : List Row). IfOk c.into_rows.result (λ set. set.items ≡ rows)) made c.into_rows.ensures
