use Rattle.std.proofs.Common.{◌≡◌, ◌≤◌, ℤ, unsigned_abs, ◌*◌, ◌^◌, ◌+ℤ◌, List, drop}
use Rattle.transform.specs.Schedules.{wave, wave_of, wide_tile}
use Rattle.skeletons.proofs.cell_box.tile_wave.Given as goal

abbrev pub invariant-loop-row : goal.invariant-loop-row
invariant-loop-row g l = record {
  size : unsigned_abs l.wave ≤ l.row * 2 ^ 63;
  from : l.schedule.seq ≤ l.row;
  sum : (p : List ℤ) → wide_tile l.schedule p ≡ l.tile → l.wave +ℤ wave_of p (drop l.row l.schedule.lines) ≡ wave l.schedule p;
}
