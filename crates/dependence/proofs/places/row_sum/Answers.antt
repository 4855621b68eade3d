use Rattle.std.proofs.Common.{◌≤◌, ◌-◌, ◌*◌, ◌^◌, pos, get_or, FitsSigned, w64, rules, arith}
use Rattle.std.proofs.lemmas.Int.{to_z-of_z}
use Rattle.domain.specs.Tables.{depth}
use Rattle.dependence.specs.Systems.{place_form}
use Rattle.dependence.proofs.FormLaws.{row-step, short-step}
use Rattle.dependence.proofs.places.row_sum.Goals as goal

pub loop-place-preserved : goal.loop-place-preserved
loop-place-preserved g c =
    let m : FitsSigned w64 (get_or c.args.row.now (c.loop-place.place - 1) (pos 0)) = search rules in
    let deep = c.requires.table.deep in
    let told = c.told-row in
    let some : 1 ≤ c.loop-place.place = omega (arith, c.loop-place-test.true) in
    let most : c.loop-place.place ≤ g.row.D = omega arith in
    record {
      value = row-step (depth c.args.pred.now) c.args.row.now (place_form c.args.pred.now c.args.block.now) c.loop-place.place c.place_sum.result c.loop-place.sum c.times_plus-sum.result some (omega arith) (omega arith) c.place_sum.ensures.value c.loop-place.invariant.value (simp to_z-of_z at c.times_plus-sum.ensures.value);
      short = short-step g.row.D c.loop-place.place c.times_plus-sum.result some most (c.times_plus-sum.ensures.short ((g.row.D - c.loop-place.place) * 2 ^ 83) c.loop-place.invariant.short);
    }
