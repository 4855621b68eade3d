use Rattle.std.proofs.Common.{◌≡◌, ◌<◌, ◌^◌, take, length, unsigned_abs}
use Rattle.std.specs.List.{All}
use Rattle.affine.specs.Matrices.{product}
use Rattle.affine.proofs.matrix.Matrix.map.Given as goal

abbrev pub invariant-loop-place : goal.invariant-loop-place
invariant-loop-place g l = record {
  long : length l.places ≡ g.row.D;
  small : All (λ number. unsigned_abs number < 2 ^ 106) l.places;
  done : take l.place l.places ≡ product (take l.place l.self-inside.rows) l.point;
}
