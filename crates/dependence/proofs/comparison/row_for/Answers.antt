use Rattle.std.proofs.Common.{rules, ◌≡◌, refl, lit<, FitsSigned, arith, ap, subst, sym, ◌^◌, ◌∙◌}
use Rattle.std.specs.Int.{w128}
use Rattle.std.proofs.lemmas.Int.{to_z-of_z}
use Rattle.dependence.specs.Terms.{term_of}
use Rattle.dependence.specs.Comparisons.{at_most}
use Rattle.dependence.proofs.BuiltRowLaws.{pushed-x, pushed-y, fits-x, fits-y, row-is, minus-is, same_length, within-row_for}
use Rattle.dependence.proofs.RowLaws.{variables-row_for}
use Rattle.affine.specs.Rows.{variables}
use Rattle.fourier_motzkin.specs.RowSets.{IsWithin}
use Rattle.dependence.proofs.comparison.row_for.Goals as goal

pub push-requires-in-loop-counter : goal.push-requires-in-loop-counter
push-requires-in-loop-counter g c = (lit< tt, fits-x _ _ _ _ c.loop-counter.counter c.args.x g.row.D c.loop-counter.invariant c.loop-counter-test.true c.requires.x c.requires.few)

pub loop-counter-preserved : goal.loop-counter-preserved
loop-counter-preserved g c =
    let a : FitsSigned w128 c.on_x.result = search rules in
    let b : FitsSigned w128 c.on_x-in-loop-counter.result = search rules in
    let r : FitsSigned w128 c.minus.result = search rules in
    let items = simp to_z-of_z at c.push-in-loop-counter.ensures.items in
    let value = simp to_z-of_z at c.minus.ensures.value in
    pushed-x _ _ _ c.minus.result _ _ c.loop-counter.counter c.loop-counter.invariant items (minus-is _ _ _ _ _ value c.on_x.ensures c.on_x-in-loop-counter.ensures)

pub push-requires-in-loop-counter-2 : goal.push-requires-in-loop-counter-2
push-requires-in-loop-counter-2 g c = (lit< tt, fits-y _ _ _ _ _ _ c.args.x c.loop-counter-2.counter c.args.y g.row.D c.loop-counter-2.invariant c.requires.x c.loop-counter-2-test.true c.requires.y c.requires.few)

pub loop-counter-2-preserved : goal.loop-counter-2-preserved
loop-counter-2-preserved g c =
    let a : FitsSigned w128 c.on_y.result = search rules in
    let b : FitsSigned w128 c.on_y-in-loop-counter-2.result = search rules in
    let r : FitsSigned w128 c.minus-in-loop-counter-2.result = search rules in
    let items = simp to_z-of_z at c.push-in-loop-counter-2.ensures.items in
    let value = simp to_z-of_z at c.minus-in-loop-counter-2.ensures.value in
    pushed-y _ _ _ c.minus-in-loop-counter-2.result _ _ _ c.loop-counter-2.counter c.loop-counter-2.invariant items (minus-is _ _ _ _ _ value c.on_y.ensures c.on_y-in-loop-counter-2.ensures)

pub returns-clause-value : goal.returns-clause-value
returns-clause-value g c =
    let a : FitsSigned w128 c.alone.result = search rules in
    let b : FitsSigned w128 c.alone-2.result = search rules in
    let r : FitsSigned w128 c.minus-2.result = search rules in
    let value = simp to_z-of_z at c.minus-2.ensures.value in
    let done : c.loop-counter-2.counter ≡ c.args.y = omega (arith, c.loop-counter-2-test.false, c.loop-counter-2.auto.counter-end) in
    row-is c.args.x c.args.y (at_most (term_of c.args.left.now) (term_of c.args.right.now)) _ c.loop-counter-2.coef.items (c.loop-counter-2.invariant ∙ same_length _ _ _ _ _ _ done) refl
    (simp to_z-of_z (minus-is _ _ _ _ _ value c.alone.ensures c.alone-2.ensures))

pub returns-clause-within : goal.returns-clause-within
returns-clause-within g c =
    subst (IsWithin (2 ^ 100)) (sym (returns-clause-value g c)) (within-row_for c.args.x c.args.y (term_of c.args.left.now) (term_of c.args.right.now) c.requires.left c.requires.right)

pub returns-clause-over : goal.returns-clause-over
returns-clause-over g c = ap variables (returns-clause-value g c) ∙ variables-row_for c.args.x c.args.y (at_most (term_of c.args.left.now) (term_of c.args.right.now))
