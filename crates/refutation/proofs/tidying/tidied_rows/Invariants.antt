use Rattle.std.proofs.Common.{◌≡◌, [], take}
use Rattle.fourier_motzkin.specs.RowSets.{with_rows}
use Rattle.refutation.proofs.tidying.tidied_rows.Given as goal

abbrev pub invariant-loop-row : goal.invariant-loop-row
invariant-loop-row l = l.set ≡ with_rows [] (take l.row-index l.rows)
