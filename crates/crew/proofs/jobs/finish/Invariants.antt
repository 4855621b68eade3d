use Rattle.std.proofs.Common.{◌≡◌}
use Rattle.crew.proofs.jobs.finish.Given as goal

abbrev pub invariant-loop-job : goal.invariant-loop-job
invariant-loop-job g l = g.J.Job.origin l.job ≡ g.J.Job.origin l.initial.job

abbrev pub decreases-loop-job : goal.decreases-loop-job
decreases-loop-job g l = g.J.Job.left_of l.job
