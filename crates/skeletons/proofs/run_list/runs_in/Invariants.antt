use Rattle.skeletons.proofs.RunListLaws.{AreRunsTo}
use Rattle.skeletons.proofs.run_list.runs_in.Given as goal

abbrev pub invariant-loop-rank : goal.invariant-loop-rank
invariant-loop-rank g l = AreRunsTo (record { table = l.frame.pred.now; schedule = l.frame.schedule.now; chunk = l.frame.chunk }) l.direction l.cell l.rank l.runs.items
