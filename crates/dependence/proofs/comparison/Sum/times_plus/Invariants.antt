use Rattle.std.proofs.Common.{◌≡◌, ◌<◌, ◌+◌, ◌^◌, ◌+ℤ◌, ◌*ℤ◌, ℕ, pos, length, get_or}
use Rattle.affine.specs.Forms.{AllWithinSize}
use Rattle.dependence.proofs.comparison.Sum.times_plus.Given as goal

abbrev pub invariant-loop-place : goal.invariant-loop-place
invariant-loop-place g l = record {
  long : length l.coef ≡ g.row.D;
  small : (most : ℕ) → AllWithinSize most l.rest-inside.coef → AllWithinSize (2 ^ 83 + most) l.coef;
  values : (k : ℕ) → k < l.place → get_or l.coef k (pos 0) ≡ l.factor *ℤ get_or l.self-inside.coef k (pos 0) +ℤ get_or l.rest-inside.coef k (pos 0);
}
