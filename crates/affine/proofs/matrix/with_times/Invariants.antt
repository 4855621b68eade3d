use Rattle.std.proofs.Common.{◌≡◌, take, length, pos}
use Rattle.affine.specs.Sums.{weighted}
use Rattle.affine.proofs.matrix.with_times.Given as goal

abbrev pub invariant-loop-place : goal.invariant-loop-place
invariant-loop-place g l = record {
  long : length l.sums ≡ g.row.D;
  done : take l.place l.sums ≡ weighted (pos 1) (take l.place l.row) l.m (take l.place l.other);
}
