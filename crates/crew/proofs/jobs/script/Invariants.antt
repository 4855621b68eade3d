use Rattle.std.proofs.Common.{◌≡◌, ℕ, get_or}
use Rattle.crew.proofs.jobs.script.Given as goal

abbrev pub invariant-loop-number : goal.invariant-loop-number
invariant-loop-number g l = (i : ℕ) (d : _) → g.J.Job.origin (get_or l.jobs i d) ≡ g.J.Job.origin (get_or l.initial.jobs i d)
