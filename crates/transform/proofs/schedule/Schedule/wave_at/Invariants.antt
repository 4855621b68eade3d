use Rattle.std.proofs.Common.{◌≡◌, ◌≤◌, ℤ, unsigned_abs, ◌*◌, ◌^◌, ◌+ℤ◌, List, drop}
use Rattle.transform.specs.Schedules.{place, wave_of}
use Rattle.transform.specs.Scripts.{lines_of, schedule_from}
use Rattle.transform.proofs.schedule.Schedule.wave_at.Given as goal

abbrev pub invariant-loop-row : goal.invariant-loop-row
invariant-loop-row g l = record {
  size : unsigned_abs l.wave ≤ l.row * 2 ^ 106;
  sum :
      (p : List ℤ) → l.numbers ≡ place (schedule_from (record { rows = l.self-inside.matrix.rows; seq = l.self-inside.seq; sizes = l.self-inside.size; parallel = l.self-inside.parallel })) p
      → l.wave +ℤ wave_of p (drop l.row (lines_of l.self-inside.matrix.rows l.self-inside.size l.self-inside.parallel))
      ≡ wave_of p (drop l.self-inside.seq (lines_of l.self-inside.matrix.rows l.self-inside.size l.self-inside.parallel));
}
