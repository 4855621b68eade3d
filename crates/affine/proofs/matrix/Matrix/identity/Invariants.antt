use Rattle.std.proofs.Common.{◌≡◌, take, length, map}
use Rattle.std.specs.List.{range_with_len}
use Rattle.affine.specs.Matrices.{unit_row}
use Rattle.affine.proofs.matrix.Matrix.identity.Given as goal

abbrev pub invariant-loop-place : goal.invariant-loop-place
invariant-loop-place g l = record {
  long : length l.rows ≡ g.row.D;
  done : take l.place l.rows ≡ map (unit_row g.row.D) (range_with_len 0 l.place);
}
