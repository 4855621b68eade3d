use Rattle.std.proofs.Common.{◌≡◌, ◌<◌, ◌≤◌, ℕ, pos, length, get_or}
use Rattle.affine.specs.Forms.{AllWithinSize}
use Rattle.domain.specs.Tables.{cut}
use Rattle.dependence.proofs.comparison.Sum.cut.Given as goal

abbrev pub invariant-loop-place : goal.invariant-loop-place
invariant-loop-place g l = record {
  long : length l.coef ≡ g.row.D;
  small : (most : ℕ) → AllWithinSize most l.self-inside.coef → AllWithinSize most l.coef;
  same : cut l.places l.coef ≡ cut l.places l.self-inside.coef;
  zeros : (k : ℕ) → l.places ≤ k → k < l.place → get_or l.coef k (pos 0) ≡ pos 0;
}
