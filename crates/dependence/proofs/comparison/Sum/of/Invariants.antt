use Rattle.std.proofs.Common.{◌≡◌, ◌<◌, ◌^◌, ℕ, pos, length, get_or}
use Rattle.affine.specs.Forms.{AllWithinSize}
use Rattle.dependence.proofs.comparison.Sum.of.Given as goal

abbrev pub invariant-loop-place : goal.invariant-loop-place
invariant-loop-place g l = record {
  long : length l.coef ≡ g.row.D;
  small : AllWithinSize (2 ^ 63) l.coef;
  values : (k : ℕ) → k < l.place → get_or l.coef k (pos 0) ≡ get_or l.form-inside.coef k (pos 0);
}
