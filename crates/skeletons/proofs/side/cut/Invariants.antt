use Rattle.std.proofs.Common.{◌≡◌, ◌<◌, ◌≤◌, ℕ, length, get_or, pos}
use Rattle.domain.specs.Tables.{cut}
use Rattle.skeletons.proofs.side.cut.Given as goal

abbrev pub invariant-loop-place : goal.invariant-loop-place
invariant-loop-place g l = record {
  long : length l.point ≡ g.row.D;
  same : cut l.places l.point ≡ cut l.places l.numbers;
  zeros : (k : ℕ) → l.places ≤ k → k < l.place → get_or l.point k (pos 0) ≡ pos 0;
}
