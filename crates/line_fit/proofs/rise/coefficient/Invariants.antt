use Rattle.std.proofs.Common.{ℕ, ◌<◌, pos, slice_index_or, FitsSigned}
use Rattle.std.specs.Int.{w64}
use Rattle.line_fit.specs.Samples.{IsStep, sample_at}
use Rattle.line_fit.proofs.rise.coefficient.Given as goal

abbrev pub invariant-loop-place : goal.invariant-loop-place
invariant-loop-place g l = record {
  none : (a b : ℕ) → b < l.place → IsStep l.counter l.samples a b → ⊥;
  numbers : (earlier : ℕ) → earlier < l.place → FitsSigned w64 (slice_index_or (sample_at l.samples earlier).at l.counter (pos 0));
}
