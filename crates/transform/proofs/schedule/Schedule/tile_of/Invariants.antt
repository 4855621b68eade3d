use Rattle.std.proofs.Common.{◌≡◌, ◌<◌, ◌≤◌, ℕ, pos, length, get_or}
use Rattle.std.specs.Int.{int_div_euclid}
use Rattle.transform.proofs.schedule.Schedule.tile_of.Given as goal

abbrev pub invariant-loop-row : goal.invariant-loop-row
invariant-loop-row g l = record {
  long : length l.tile ≡ g.row.D;
  zeros : (k : ℕ) → k < l.self-inside.seq → get_or l.tile k (pos 0) ≡ pos 0;
  values : (k : ℕ) → l.self-inside.seq ≤ k → k < l.row → get_or l.tile k (pos 0) ≡ int_div_euclid (get_or l.place k (pos 0)) (pos (get_or l.self-inside.size k 0));
}
