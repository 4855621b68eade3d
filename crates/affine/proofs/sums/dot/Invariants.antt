use Rattle.std.proofs.Common.{◌≡◌, ◌*◌, ◌≤◌, ◌^◌, unsigned_abs, take}
use Rattle.affine.specs.Sums.{dot}
use Rattle.affine.proofs.sums.dot.Given as goal

abbrev pub invariant-loop-place : goal.invariant-loop-place
invariant-loop-place g l = record {
  value : l.sum ≡ dot (take l.place l.coef) (take l.place l.point);
  small : unsigned_abs l.sum ≤ l.place * (2 ^ 40 * 2 ^ 63);
}
