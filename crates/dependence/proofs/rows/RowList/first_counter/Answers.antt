use Rattle.std.proofs.Common.{◌≤◌, ◌^◌, ◌∙◌, ap, ◌++◌, ℤ, subst, sym, unsigned_abs, lit≤, List, rules}
use Rattle.std.proofs.lemmas.Result.{on_ok_weaker}
use Rattle.affine.specs.declared.row.Row.{Row}
use Rattle.dependence.specs.Comparisons.{row_for}
use Rattle.dependence.proofs.AddedLaws.{below-seven, narrow-member, narrow-turn, wider, two-more, first_counter-is, one-less, one-less-size}
use Rattle.dependence.proofs.rows.RowList.first_counter.Goals as goal

pub at_most-requires-2 : goal.at_most-requires-2
at_most-requires-2 g c =
    let e = one-less c.args.length c.from.result c.from.ensures c.ranges.length in
    (search rules, (below-seven _ c.requires.table.few, (c.requires.x, (c.requires.y, (narrow-member _ _ _ c.at-counter.ensures (wider _ _ _ (lit≤ tt) c.counter.ensures.short), narrow-turn _ (subst (λ (z : ℤ). unsigned_abs z ≤ 2 ^ 99) (sym e) (one-less-size c.args.length c.ranges.length)))))))

pub returns : goal.returns
returns g c =
    let e = one-less c.args.length c.from.result c.from.ensures c.ranges.length in
    on_ok_weaker c.at_most-2.result
    (λ last. two-more _ _ _ _ _ c.in_ok-at_most.ensures last
    ∙ ap (λ (rows : List Row). c.args.self.now.rows.items ++ rows) (first_counter-is (row_for c.args.over.x c.args.over.y) c.args.pred.now c.args.length c.args.member g.row.D c.counter.result _ _ c.requires.table.deep c.counter.ensures.value c.at-counter.ensures e))
    c.at_most-2.ensures
