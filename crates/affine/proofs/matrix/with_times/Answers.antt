use Rattle.std.proofs.Common.{◌≡◌, ◌<◌, length, pos, get_or, FitsSigned, arith, rules}
use Rattle.std.specs.Int.{w64}
use Rattle.std.proofs.lemmas.Int.{to_z-of_z}
use Rattle.affine.proofs.MatrixLaws.{weighted-step, fits-from-small}
use Rattle.affine.proofs.matrix.with_times.Goals as goal

pub plus_times-requires : goal.plus_times-requires
plus_times-requires g c =
    let x : FitsSigned w64 (get_or c.args.row.now c.loop-place.place (pos 0)) = search rules in
    let y : FitsSigned w64 (get_or c.args.other.now c.loop-place.place (pos 0)) = search rules in
    let times = c.ranges.m in
    let inside : c.loop-place.place < length c.args.row.now = omega arith in
    let same : length c.args.row.now ≡ length c.args.other.now = omega arith in
    simp to_z-of_z (fits-from-small c.args.m c.args.row.now c.args.other.now c.loop-place.place c.requires same inside)

pub loop-place-preserved : goal.loop-place-preserved
loop-place-preserved g c =
    let x : FitsSigned w64 (get_or c.args.row.now c.loop-place.place (pos 0)) = search rules in
    let y : FitsSigned w64 (get_or c.args.other.now c.loop-place.place (pos 0)) = search rules in
    let r : FitsSigned w64 c.plus_times.result = search rules in
    let times = c.ranges.m in
    let inside : c.loop-place.place < length c.args.row.now = omega arith in
    let also : c.loop-place.place < length c.args.other.now = omega arith in
    let room : c.loop-place.place < length c.loop-place.sums = omega arith in
    let is = simp to_z-of_z at c.plus_times.ensures in
    record {
      long = search rules;
      done = simp to_z-of_z (weighted-step c.args.m c.args.row.now c.args.other.now c.loop-place.sums c.loop-place.place c.plus_times.result inside also room is (simp to_z-of_z at c.loop-place.invariant.done));
    }
