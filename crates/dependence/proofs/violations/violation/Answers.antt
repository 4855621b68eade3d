use Rattle.std.proofs.Common.{◌≡◌, ◌∙◌, ap, sym, subst, ◌<◌, ◌++◌, ◌-◌, min, map, take, length, ℕ, lit<, lit≤, rules, arith}
use Rattle.std.specs.List.{flat_map}
use Rattle.fourier_motzkin.specs.Elimination.{AllOver}
use Rattle.domain.specs.Tables.{block_at}
use Rattle.transform.specs.Schedules.{line_at}
use Rattle.dependence.specs.Comparisons.{row_for}
use Rattle.dependence.specs.Systems.{System, IsSystemOf}
use Rattle.dependence.specs.Sides.{is_above}
use Rattle.dependence.specs.Legality.{joint_variables, unmoved}
use Rattle.dependence.proofs.AddedLaws.{narrow-x, narrow-y, wider}
use Rattle.dependence.proofs.PairLaws.{first-block, second-block}
use Rattle.dependence.proofs.ViolationLaws.{more-unmoved, row_form-is, violation-is, violation-over}
use Rattle.dependence.proofs.violations.violation.Goals as goal

pub block-a-requires : goal.block-a-requires
block-a-requires g c = (lit< tt, (lit< tt, first-block c.args.pred.now _ (subst (IsSystemOf c.args.pred.now) (sym c.system.view_is) c.requires.of)))

pub block-b-requires : goal.block-b-requires
block-b-requires g c = (lit< tt, (lit< tt, second-block c.args.pred.now _ (subst (IsSystemOf c.args.pred.now) (sym c.system.view_is) c.requires.of)))

pub equal-requires : goal.equal-requires
equal-requires g c = (search rules, (c.requires.few, (c.counters.ensures.most, (c.counters-2.ensures.most, (narrow-x _ (wider _ _ _ (lit≤ tt) c.row_sum-x.ensures.short), narrow-y _ (wider _ _ _ (lit≤ tt) c.row_sum-y.ensures.short))))))

pub loop-leading-preserved : goal.loop-leading-preserved
loop-leading-preserved g c =
    let long = c.matrix_row-line.ensures.long in
    let inside : c.loop-leading.leading < length c.args.schedule.now.lines = omega arith in
    more-unmoved (row_for c.counters.result c.counters-2.result) c.args.pred.now c.block-a.result.now c.block-b.result.now c.args.schedule.now c.loop-leading.leading c.row_sum-x.result c.row_sum-y.result _ c.loop-leading.list.rows.items c.equal.new.self.rows.items inside
    (row_form-is c.args.pred.now c.block-a.result.now (line_at c.args.schedule.now c.loop-leading.leading) c.matrix_row-line.result.now c.row_sum-x.result c.matrix_row-line.ensures.value c.row_sum-x.ensures.value)
    (row_form-is c.args.pred.now c.block-b.result.now (line_at c.args.schedule.now c.loop-leading.leading) c.matrix_row-line.result.now c.row_sum-y.result c.matrix_row-line.ensures.value c.row_sum-y.ensures.value)
    c.loop-leading.invariant c.in_ok-equal.ensures

pub returns-clause-value : goal.returns-clause-value
returns-clause-value g c =
    let t = c.args.pred.now in
    let s = c.args.schedule.now in
    let h = row_for c.counters.result c.counters-2.result in
    let least = c.min-leading-end.ensures in
    let leads = c.seq.ensures.value in
    let done : c.loop-leading.leading ≡ min (c.args.row - 1) s.seq = omega arith in
    violation-is t s c.args.system.now c.args.row (is_above c.args.side) c.counters.result c.counters-2.result c.block-a.result.now c.block-b.result.now c.row_sum-x-2.result c.row_sum-y-2.result c.in_ok-copied.field-0.items c.loop-leading.list.rows.items c.turned.new.self.rows.items
    (c.block-a.ensures.block ∙ ap (λ (u : System). block_at t u.first.block) c.system.view_is)
    (c.block-b.ensures.block ∙ ap (λ (u : System). block_at t u.second.block) c.system.view_is)
    c.counters.ensures.value c.counters-2.ensures.value
    (c.in_ok-copied.ensures ∙ c.deref.ensures.value ∙ ap (λ (u : System). u.rows) c.system.view_is)
    (row_form-is t c.block-a.result.now (line_at s (c.args.row - 1)) c.matrix_row-line-2.result.now c.row_sum-x-2.result c.matrix_row-line-2.ensures.value c.row_sum-x-2.ensures.value)
    (row_form-is t c.block-b.result.now (line_at s (c.args.row - 1)) c.matrix_row-line-2.result.now c.row_sum-y-2.result c.matrix_row-line-2.ensures.value c.row_sum-y-2.ensures.value)
    (c.loop-leading.invariant ∙ ap (λ (k : ℕ). c.in_ok-copied.field-0.items ++ map h (flat_map (unmoved t c.block-a.result.now c.block-b.result.now) (take k s.lines))) done)
    c.in_ok-turned.ensures

pub returns-clause-over : goal.returns-clause-over
returns-clause-over g c = subst (AllOver (joint_variables c.args.pred.now c.args.system.now)) (sym (returns-clause-value g c)) (violation-over c.args.pred.now c.args.schedule.now c.args.system.now c.args.row (is_above c.args.side) c.requires.of)
