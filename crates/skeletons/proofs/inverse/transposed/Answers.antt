use Rattle.std.proofs.Common.{◌≡◌, ◌<◌, length, arith}
use Rattle.std.proofs.Math.ListN.{length-set}
use Rattle.affine.proofs.MatrixLaws.{map-range-step}
use Rattle.skeletons.specs.Frames.{entries}
use Rattle.skeletons.proofs.FrameLaws.{transposed-small-from}
use Rattle.skeletons.proofs.inverse.transposed.Goals as goal

pub loop-row-preserved : goal.loop-row-preserved
loop-row-preserved g c =
    let room : c.loop-row.row < length c.loop-row.rows = omega arith in
    record {
      long = simp length-set (c.loop-row.invariant.long);
      done = map-range-step (entries c.args.columns.now) c.loop-row.rows c.loop-row.row c.entries.result room c.entries.ensures c.loop-row.invariant.done;
    }

pub invariant_of-result : goal.invariant_of-result
invariant_of-result g c =
    let ended : c.loop-row.row ≡ g.row.D = omega arith in
    transposed-small-from g.row.D c.args.columns.now c.loop-row.rows c.requires.square c.requires.small c.loop-row.invariant.long (rw ended at c.loop-row.invariant.done)
