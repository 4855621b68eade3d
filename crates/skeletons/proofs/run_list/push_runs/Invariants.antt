use Rattle.std.proofs.Common.{◌≡◌, ◌++◌, map, take}
use Rattle.skeletons.specs.RunLists.{run_of}
use Rattle.skeletons.proofs.run_list.push_runs.Given as goal

abbrev pub invariant-loop-stretch : goal.invariant-loop-stretch
invariant-loop-stretch g l = l.runs.items ≡ l.initial.runs.items ++ map (run_of (record { table = l.frame.pred.now; schedule = l.frame.schedule.now; chunk = l.frame.chunk }) l.frame.inverse l.direction l.rank) (take l.stretch-index l.stretches)
