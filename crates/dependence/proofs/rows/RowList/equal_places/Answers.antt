use Rattle.std.proofs.Common.{arith}
use Rattle.dependence.specs.Comparisons.{row_for}
use Rattle.dependence.specs.Systems.{equal_place}
use Rattle.dependence.proofs.AddedLaws.{equal_place-is, more-of-range}
use Rattle.dependence.proofs.rows.RowList.equal_places.Goals as goal

pub loop-place-preserved : goal.loop-place-preserved
loop-place-preserved g c =
    more-of-range c.args.self.now.rows.items c.loop-place.self.rows.items c.equal.new.self.rows.items (row_for c.args.over.x c.args.over.y) (equal_place c.args.pred.now c.args.a.now c.args.b.now) 0 c.loop-place.place _
    (omega arith) c.loop-place.invariant c.in_ok-equal.ensures
    (equal_place-is c.args.pred.now c.args.a.now c.args.b.now c.loop-place.place c.place_sum.result c.place_sum-in-loop-place.result c.place_sum.ensures.value c.place_sum-in-loop-place.ensures.value)
