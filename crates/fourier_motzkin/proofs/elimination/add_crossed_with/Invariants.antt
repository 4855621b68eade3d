use Rattle.std.proofs.Common.{◌≡◌, take, filter, map}
use Rattle.fourier_motzkin.specs.RowSets.{with_rows}
use Rattle.fourier_motzkin.specs.Elimination.{bounds_above, crossed}
use Rattle.fourier_motzkin.proofs.elimination.add_crossed_with.Given as goal

abbrev pub invariant-loop-row : goal.invariant-loop-row
invariant-loop-row l = l.next ≡ with_rows l.fn.next (map (crossed l.variable l.below) (filter (bounds_above l.variable) (take l.row-index l.rows)))
