use Rattle.std.proofs.Common.{◌≡◌, take, filter}
use Rattle.fourier_motzkin.specs.RowSets.{with_rows}
use Rattle.fourier_motzkin.specs.Elimination.{is_without}
use Rattle.fourier_motzkin.proofs.elimination.add_without.Given as goal

abbrev pub invariant-loop-row : goal.invariant-loop-row
invariant-loop-row l = l.next ≡ with_rows l.fn.next (filter (is_without l.variable) (take l.row-index l.rows))
