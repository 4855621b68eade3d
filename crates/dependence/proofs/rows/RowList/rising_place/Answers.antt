use Rattle.std.proofs.Common.{◌∙◌, ap, ◌<◌, ◌++◌, List, lit≤, rules, arith}
use Rattle.std.proofs.lemmas.Result.{on_ok_weaker}
use Rattle.affine.specs.declared.row.Row.{Row}
use Rattle.domain.specs.Tables.{depth}
use Rattle.dependence.specs.Comparisons.{row_for}
use Rattle.dependence.proofs.AddedLaws.{below-seven, narrow-x, narrow-y, rising_place-is, wider}
use Rattle.dependence.proofs.rows.RowList.rising_place.Goals as goal

pub at_most-requires : goal.at_most-requires
at_most-requires g c = (search rules, (below-seven _ c.requires.table.few, (c.requires.x, (c.requires.y, (narrow-x _ c.shifted.ensures.short, narrow-y _ (wider _ _ _ (lit≤ tt) c.place_sum-2.ensures.short))))))

pub returns : goal.returns
returns g c =
    let deep = c.requires.table.deep in
    let inside : c.args.place < depth c.args.pred.now = omega (arith, deep, c.if-place.false) in
    on_ok_weaker c.at_most.result
    (λ last. last ∙ ap (λ (rows : List Row). c.args.self.now.rows.items ++ rows)
    (rising_place-is (row_for c.args.over.x c.args.over.y) c.args.pred.now c.args.a.now c.args.b.now c.args.place c.place_sum.result c.place_sum-2.result c.shifted.result inside c.place_sum.ensures.value c.place_sum-2.ensures.value c.shifted.ensures.value))
    c.at_most.ensures
