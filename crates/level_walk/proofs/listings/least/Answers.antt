use Rattle.std.proofs.Common.{◌≡◌, ◌∙◌, ◌+◌, drop, sym, ap, subst}
use Rattle.std.specs.Prelude.{None}
use Rattle.level_walk.specs.Listed.{least_after}
use Rattle.level_walk.specs.Listings.{items_of, listed_in}
use Rattle.level_walk.specs.Lattices.{in_box}
use Rattle.level_walk.proofs.ListLaws.{listed-end, passed, taken}
use Rattle.level_walk.proofs.listings.least.Goals as goal
use Rattle.level_walk.proofs.listings.least.Goals.{then-is_in_box, else-is_in_box}

pub loop-point-preserved : goal.loop-point-preserved
loop-point-preserved c =
    elim c.if-is_in_box.branch [
      | then-is_in_box w ↦
          taken c.args.lows.now c.args.highs.now c.args.points.now c.loop-point.point-index c.point-item.result (items_of c.args.last.now) (items_of c.loop-point.best) (items_of c.if-is_in_box.best) _ c.loop-point-test.true c.point-item.is
          (ap (in_box c.args.lows.now c.args.highs.now) (sym c.as_slice.ensures.value) ∙ sym c.is_in_box.ensures ∙ w.if-is_in_box.true)
          (ap items_of w.best-is ∙ w.bettered-best.ensures) c.loop-point.invariant
      | else-is_in_box w ↦
          subst (λ o. least_after (items_of c.args.last.now) (items_of o) (listed_in c.args.lows.now c.args.highs.now (drop (c.loop-point.point-index + 1) c.args.points.now)) ≡ least_after (items_of c.args.last.now) None (listed_in c.args.lows.now c.args.highs.now c.args.points.now)) (sym w.best-is)
          (passed c.args.lows.now c.args.highs.now c.args.points.now c.loop-point.point-index c.point-item.result (items_of c.args.last.now) (items_of c.loop-point.best) _ c.loop-point-test.true c.point-item.is
          (ap (in_box c.args.lows.now c.args.highs.now) (sym c.as_slice.ensures.value) ∙ sym c.is_in_box.ensures ∙ w.if-is_in_box.false)
          c.loop-point.invariant)
    ]

pub returns : goal.returns
returns c = listed-end c.args.lows.now c.args.highs.now c.args.points.now c.loop-point.point-index (items_of c.args.last.now) (items_of c.loop-point.best) _ c.loop-point-test.false c.loop-point.invariant
