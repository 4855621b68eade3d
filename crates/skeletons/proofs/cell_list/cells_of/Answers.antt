use Rattle.std.proofs.Common.{arith}
use Rattle.skeletons.proofs.cell_list.cells_of.Goals as goal

pub returns : goal.returns
returns g c = record {
  ordered = c.in_order.ensures.ordered;
  has = λ cell. (
    λ h. let m = (c.in_ok-met_cells.ensures cell).0 ((c.in_order.ensures.has cell).0 h) in (m.at, m.lies),
    λ h. (c.in_order.ensures.has cell).1 ((c.in_ok-met_cells.ensures cell).1 (record { at = h.0; below = let b = h.1.predicted.is.block in let n = c.requires.frame.count in omega (arith, b, n); lies = h.1 })),
  );
}
