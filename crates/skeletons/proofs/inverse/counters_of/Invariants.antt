use Rattle.std.proofs.Common.{◌≡◌, ◌<◌, ◌≤◌, ℕ, length, pos}
use Rattle.domain.specs.Instances.{counter}
use Rattle.skeletons.proofs.inverse.counters_of.Given as goal

abbrev pub invariant-loop-place : goal.invariant-loop-place
invariant-loop-place g l = record {
  long : length l.at ≡ g.row.D;
  done : (k : ℕ) → k < l.place → counter l.at k ≡ counter l.point k;
  rest : (k : ℕ) → l.place ≤ k → counter l.at k ≡ pos 0;
}
