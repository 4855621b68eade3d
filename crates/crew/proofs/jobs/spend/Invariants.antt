use Rattle.std.proofs.Common.{◌≡◌, ◌≤◌}
use Rattle.crew.proofs.jobs.spend.Given as goal

abbrev pub invariant-loop-unspent : goal.invariant-loop-unspent
invariant-loop-unspent g l = record {
  origin : g.J.Job.origin l.job ≡ g.J.Job.origin l.initial.job;
  few : l.unspent ≤ l.initial.unspent;
}

abbrev pub decreases-loop-unspent : goal.decreases-loop-unspent
decreases-loop-unspent g l = l.unspent
