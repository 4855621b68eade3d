use Rattle.std.proofs.Common.{◌≡◌, ◌≤◌, ◌*◌, take}
use Rattle.std.specs.Prelude.{◌^◌}
use Rattle.crew.specs.Jobs.{total}
use Rattle.crew.proofs.jobs.total_steps.Given as goal

abbrev pub invariant-loop-job : goal.invariant-loop-job
invariant-loop-job g l = record {
  sum : l.steps ≡ total g.J.Job.steps_of (take l.job-index l.jobs);
  few : l.steps ≤ l.job-index * 2 ^ 36;
}
