use Rattle.std.proofs.Common.{◌≡◌, ℕ, ◌<◌, ◌≤◌, pos, length, slice_index_or, unsigned_abs}
use Rattle.line_fit.specs.Samples.{IsCoefficient}
use Rattle.line_fit.specs.Lines.{largest}
use Rattle.line_fit.proofs.line.coefficients.Given as goal

abbrev pub invariant-loop-counter : goal.invariant-loop-counter
invariant-loop-counter g l = record {
  counters : length l.found ≡ g.row.D;
  each : (k : ℕ) → k < l.counter → IsCoefficient k l.samples (slice_index_or l.found k (pos 0));
  small : (k : ℕ) → k < l.counter → unsigned_abs (slice_index_or l.found k (pos 0)) ≤ largest;
}
