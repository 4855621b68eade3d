use Rattle.std.proofs.Common.{◌≡◌, ◌<◌, length, arith}
use Rattle.std.proofs.Math.ListN.{length-set}
use Rattle.affine.specs.Matrices.{unit_row}
use Rattle.affine.proofs.MatrixLaws.{map-range-step, HasSmallEntries-identity-from}
use Rattle.affine.proofs.matrix.Matrix.identity.Goals as goal

pub loop-place-preserved : goal.loop-place-preserved
loop-place-preserved g c =
    let room : c.loop-place.place < length c.loop-place.rows = omega arith in
    record {
      long = simp length-set (c.loop-place.invariant.long);
      done = map-range-step (unit_row g.row.D) c.loop-place.rows c.loop-place.place c.unit_row.result room c.unit_row.ensures c.loop-place.invariant.done;
    }

pub invariant_of-result : goal.invariant_of-result
invariant_of-result g c =
    let ended : c.loop-place.place ≡ g.row.D = omega arith in
    HasSmallEntries-identity-from g.row.D c.loop-place.rows c.loop-place.invariant.long (rw ended at c.loop-place.invariant.done)
