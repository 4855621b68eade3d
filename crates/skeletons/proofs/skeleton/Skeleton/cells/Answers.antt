use Rattle.std.proofs.Common.{subst}
use Rattle.std.specs.Prelude.{IfOk}
use Rattle.skeletons.specs.Cells.{AreCellsOf, Extent}
use Rattle.skeletons.proofs.skeleton.Skeleton.cells.Goals as goal

pub returns : goal.returns
returns g c = subst (λ (e : Extent). IfOk c.cells_of.result (λ cells. AreCellsOf e cells.items)) c.frame.ensures.is c.cells_of.ensures
