use Rattle.std.proofs.Common.{◌≡◌, ℕ, ◌<◌, get_or}
use Rattle.crew.proofs.jobs.are_done_here.Given as goal

abbrev pub invariant-loop-job : goal.invariant-loop-job
invariant-loop-job g l =
    (i : ℕ) (d : _) → (0 < l.unspent → i < l.job-index → (g.J.Job.left_of (get_or l.jobs i d) ≡ 0)) × (g.J.Job.origin (get_or l.jobs i d) ≡ g.J.Job.origin (get_or l.initial.jobs i d))
