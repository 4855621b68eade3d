use Rattle.std.proofs.Common.{◌≡◌, take, filter, map}
use Rattle.std.specs.List.{flat_map}
use Rattle.fourier_motzkin.specs.RowSets.{with_rows}
use Rattle.fourier_motzkin.specs.Elimination.{bounds_above, bounds_below, crossed}
use Rattle.fourier_motzkin.proofs.elimination.add_crossed.Given as goal

abbrev pub invariant-loop-row : goal.invariant-loop-row
invariant-loop-row l = l.next ≡ with_rows l.fn.next (flat_map (λ below. map (crossed l.variable below) (filter (bounds_above l.variable) l.rows)) (filter (bounds_below l.variable) (take l.row-index l.rows)))
