use Rattle.std.specs.Prelude.{◌↔◌}
use Rattle.plain_lemmas.specs.Lists.{Has}
use Rattle.skeletons.specs.CellLists.{IsMetBelow}
use Rattle.skeletons.specs.Cells.{Cell}
use Rattle.skeletons.proofs.cell_list.met_cells.Given as goal

abbrev pub invariant-loop-rank : goal.invariant-loop-rank
invariant-loop-rank g l = (cell : Cell) → Has l.cells.items cell ↔ IsMetBelow (record { table = l.frame.pred.now; schedule = l.frame.schedule.now; chunk = l.frame.chunk }) l.rank cell
