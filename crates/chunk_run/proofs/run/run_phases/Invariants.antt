use Rattle.std.proofs.Common.{◌≡◌, ◌≤◌, ◌+◌, length, vec_len, vec_capacity}
use Rattle.follow_chunk.specs.Tasks.{task_of}
use Rattle.chunk_run.proofs.AttemptingLaws.{Stands}
use Rattle.chunk_run.proofs.run.run_phases.Given as goal

abbrev pub invariant-loop-number : goal.invariant-loop-number
invariant-loop-number g l = record {
  stands : Stands (task_of l.chunk.launch.task.now)
      l.chunk.skeleton.now l.chunk.launch.workers l.chunk.plan.now l.scalars l.number l.fn.left l.left l.fn.main.view l.main.view (g.C.Crew.handed l.fn.crew) (g.C.Crew.handed l.crew);
  end : l.number-end ≡ length l.chunk.plan.now.phases;
  table : l.main.table ≡ l.fn.main.table;
  spare : length l.chunk.plan.now.phases ≤ g.C.Crew.spare l.crew + l.number;
  empty : vec_len l.workers ≡ 0;
  room : l.chunk.launch.workers ≤ vec_capacity l.workers;
}
