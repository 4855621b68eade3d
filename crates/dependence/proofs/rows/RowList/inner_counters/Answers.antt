use Rattle.std.proofs.Common.{◌≡◌, inr, ◌∙◌, ap, ◌-◌, ◌++◌, map, lit≤, pos, rules, arith}
use Rattle.std.specs.List.{range_with_len, flat_map}
use Rattle.dependence.specs.Comparisons.{row_for}
use Rattle.dependence.specs.Systems.{inner_counter}
use Rattle.dependence.specs.Terms.{at_member}
use Rattle.domain.specs.Tables.{counters}
use Rattle.dependence.proofs.AddedLaws.{below-seven, inner_counter-is, narrow-member, narrow-number, wider, more-of-range, two-more, ended}
use Rattle.dependence.proofs.rows.RowList.inner_counters.Goals as goal

pub at_most-requires : goal.at_most-requires
at_most-requires g c = (search rules, (below-seven _ c.requires.table.few, (c.requires.x, (c.requires.y, (narrow-number (pos 0) (lit≤ tt), narrow-member _ _ _ c.at-counter.ensures (wider _ _ _ (lit≤ tt) c.counter.ensures.short))))))

pub at_most-requires-in-loop-place : goal.at_most-requires-in-loop-place
at_most-requires-in-loop-place g c = (search rules, (below-seven _ c.requires.table.few, (c.requires.x, (c.requires.y, (narrow-member _ _ _ c.at-counter.ensures (wider _ _ _ (lit≤ tt) c.counter.ensures.short), narrow-member _ _ _ c.at-greatest.ensures c.greatest_sum.ensures.short)))))

pub loop-place-preserved : goal.loop-place-preserved
loop-place-preserved g c =
    let count = c.counters-place-end.ensures.value in
    record {
      rows =
          more-of-range c.args.self.now.rows.items c.loop-place.self.rows.items c.at_most-in-loop-place.new.self.rows.items (row_for c.args.over.x c.args.over.y) (inner_counter c.args.pred.now c.args.block.now (at_member c.args.member)) 1 c.loop-place.place _
          c.loop-place.auto.place c.loop-place.invariant.rows (two-more _ _ _ _ _ c.in_ok-at_most.ensures c.in_ok-at_most-2.ensures)
          (inner_counter-is c.args.pred.now c.args.block.now c.args.member g.row.D c.loop-place.place c.counter.result c.greatest_sum.result _ _ c.requires.table.deep c.counter.ensures.value c.greatest_sum.ensures.value c.at-counter.ensures c.at-greatest.ensures);
      inside = inr (omega (arith, count, c.loop-place-test.true));
    }

pub returns : goal.returns
returns g c =
    let count = c.counters-place-end.ensures.value in
    let same : c.loop-place.place - 1 ≡ counters c.args.pred.now c.args.block.now - 1 = ended _ _ c.loop-place.auto.place (omega (arith, count, c.loop-place-test.false)) c.loop-place.invariant.inside in
    c.loop-place.invariant.rows ∙ ap (λ m. c.args.self.now.rows.items ++ map (row_for c.args.over.x c.args.over.y) (flat_map (inner_counter c.args.pred.now c.args.block.now (at_member c.args.member)) (range_with_len 1 m))) same
