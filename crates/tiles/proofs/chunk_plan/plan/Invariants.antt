use Rattle.tiles.proofs.PlanLaws.{Stands}
use Rattle.tiles.proofs.chunk_plan.plan.Given as goal

abbrev pub invariant-loop-cell : goal.invariant-loop-cell
invariant-loop-cell g l = Stands (record { table = l.task.pred.now; schedule = l.schedule; chunk = l.task.chunk }) l.words l.cell-items l.cell-index l.groups.items l.stripes.items l.instances
