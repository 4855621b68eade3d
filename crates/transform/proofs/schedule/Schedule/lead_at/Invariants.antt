use Rattle.std.proofs.Common.{◌≡◌, ◌<◌, ◌≤◌, ℕ, pos, length, get_or}
use Rattle.transform.proofs.schedule.Schedule.lead_at.Given as goal

abbrev pub invariant-loop-row : goal.invariant-loop-row
invariant-loop-row g l = record {
  long : length l.lead ≡ g.row.D;
  values : (k : ℕ) → k < l.row → get_or l.lead k (pos 0) ≡ get_or l.numbers k (pos 0);
  zeros : (k : ℕ) → l.row ≤ k → k < g.row.D → get_or l.lead k (pos 0) ≡ pos 0;
}
