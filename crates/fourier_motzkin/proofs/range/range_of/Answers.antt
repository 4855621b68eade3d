use Rattle.std.proofs.Common.{FitsSigned, int_lt, pos, refl, inl, ap, rules}
use Rattle.std.specs.Int.{w128}
use Rattle.std.specs.Prelude.{is_some}
use Rattle.std.proofs.lemmas.Int.{to_z-of_z}
use Rattle.fourier_motzkin.specs.Elimination.{bounds_above, bounds_below}
use Rattle.fourier_motzkin.specs.Ranges.{Allowed}
use Rattle.fourier_motzkin.proofs.RangeLaws.{lies-all, lies-more, none-at-row, range-none, range-some, side-all, side-more}
use Rattle.fourier_motzkin.proofs.range.range_of.Goals as goal

pub returns-in_err-ends-clause-none : goal.returns-in_err-ends-clause-none
returns-in_err-ends-clause-none c =
    let rest : FitsSigned w128 c.rest_at-rest.result = search rules in
    let coefficient : FitsSigned w128 c.coefficient.result = search rules in
    let none = simp to_z-of_z at c.in_err-ends.ensures.none in (
      λ _. inl (none-at-row c.args.rows.now c.args.outer.now c.args.variable c.loop-row.row-index c.row-item.result c.coefficient.result c.rest_at-rest.result
          c.requires.outer c.loop-row-test.true c.row-item.is c.coefficient.ensures c.rest_at-rest.ensures.value (none refl)),
      λ _. ap is_some c.from_residual.ensures,
    )

pub loop-row-preserved : goal.loop-row-preserved
loop-row-preserved c =
    let rest : FitsSigned w128 c.rest_at-rest.result = search rules in
    let coefficient : FitsSigned w128 c.coefficient.result = search rules in
    let lies = simp to_z-of_z at c.in_ok-ends.ensures.some in
    let below = simp to_z-of_z at c.in_ok-ends.ensures.least in
    let above = simp to_z-of_z at c.in_ok-ends.ensures.greatest in
    record {
      lies = lies-more c.args.rows.now c.args.outer.now c.args.variable c.loop-row.row-index c.row-item.result c.coefficient.result c.rest_at-rest.result
          c.loop-row.ends.least c.loop-row.ends.greatest c.in_ok-ends.ends.least c.in_ok-ends.ends.greatest
          c.requires.outer c.loop-row-test.true c.row-item.is c.coefficient.ensures c.rest_at-rest.ensures.value c.loop-row.invariant.lies lies;
      below = side-more (bounds_below c.args.variable) c.args.rows.now c.loop-row.row-index c.row-item.result _ _ _
          c.loop-row-test.true c.row-item.is (ap (int_lt (pos 0)) c.coefficient.ensures) below c.loop-row.invariant.below;
      above = side-more (bounds_above c.args.variable) c.args.rows.now c.loop-row.row-index c.row-item.result _ _ _
          c.loop-row-test.true c.row-item.is (ap (λ z. int_lt z (pos 0)) c.coefficient.ensures) above c.loop-row.invariant.above;
    }

pub returns-clause-some : goal.returns-clause-some
returns-clause-some c =
    range-some (Allowed c.args.rows.now c.args.outer.now) c.loop-row.ends.least c.loop-row.ends.greatest c.range.result
    (lies-all c.args.rows.now c.args.outer.now c.loop-row.row-index c.loop-row.ends.least c.loop-row.ends.greatest c.loop-row-test.false c.loop-row.invariant.lies)
    c.range.ensures.some

pub returns-clause-none : goal.returns-clause-none
returns-clause-none c =
    range-none c.args.variable c.args.rows.now c.args.outer.now c.loop-row.ends.least c.loop-row.ends.greatest c.range.result
    (lies-all c.args.rows.now c.args.outer.now c.loop-row.row-index c.loop-row.ends.least c.loop-row.ends.greatest c.loop-row-test.false c.loop-row.invariant.lies)
    (side-all (bounds_below c.args.variable) c.args.rows.now c.loop-row.row-index _ c.loop-row-test.false c.loop-row.invariant.below)
    (side-all (bounds_above c.args.variable) c.args.rows.now c.loop-row.row-index _ c.loop-row-test.false c.loop-row.invariant.above)
    c.range.ensures.some c.range.ensures.none
