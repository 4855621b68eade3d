use Rattle.std.proofs.Common.{◌-◌, List, ap, sym, subst, ◌∙◌, arith}
use Rattle.affine.specs.declared.row.Row.{Row}
use Rattle.fourier_motzkin.specs.RowSets.{tidied}
use Rattle.fourier_motzkin.specs.Elimination.{IsSound, judged}
use Rattle.fourier_motzkin.specs.Verdicts.{ruling}
use Rattle.fourier_motzkin.specs.declared.elimination.Eliminated.{Eliminated}
use Rattle.fourier_motzkin.proofs.EliminationRunLaws.{are-levels, bounds-is, levels-all, levels-more, levels-none, next-sound, ruling-all, ruling-more, tidied-sound}
use Rattle.fourier_motzkin.proofs.verdicts.bounds.Goals as goal

pub loop-variable-init : goal.loop-variable-init
loop-variable-init c = record {
  levels = levels-none c.args.variables c.in_ok-said.said (judged (tidied c.args.rows.now)) c.new-levels.result.items c.in_ok-said.ensures c.new-levels.ensures.items;
  ruling = ap (λ (said : Eliminated). ruling c.args.variables said) c.in_ok-said.ensures;
  sound = subst (λ (said : Eliminated). IsSound c.args.variables said) (sym c.in_ok-said.ensures) (tidied-sound c.args.variables c.args.rows.now c.requires.over);
}

pub step-requires : goal.step-requires
step-requires c = (c.args.variables, omega arith, c.loop-variable.invariant.sound)

pub loop-variable-preserved : goal.loop-variable-preserved
loop-variable-preserved c =
    let level = ap (λ (pair : List Row × Eliminated). pair.0) c.in_ok-level.ensures in
    let after = ap (λ (pair : List Row × Eliminated). pair.1) c.in_ok-level.ensures in
    record {
      levels = levels-more c.loop-variable.variable c.loop-variable.said c.in_ok-level.next c.in_ok-level.level c.loop-variable.levels.items c.push.new.self.items _ c.loop-variable-test.true level after c.in_ok-push.ensures.items c.loop-variable.invariant.levels;
      ruling = ruling-more c.loop-variable.variable c.loop-variable.said c.in_ok-level.next _ c.loop-variable-test.true after c.loop-variable.invariant.ruling;
      sound = subst (λ (said : Eliminated). IsSound c.args.variables said) (sym after) (next-sound c.args.variables (c.loop-variable.variable - 1) c.loop-variable.said c.loop-variable.invariant.sound);
    }

pub new-requires : goal.new-requires
new-requires c =
    are-levels c.args.variables (judged (tidied c.args.rows.now)) c.reverse.new.self.items (tidied-sound c.args.variables c.args.rows.now c.requires.over)
    (c.reverse.ensures.items ∙ levels-all c.loop-variable.variable c.loop-variable.said c.loop-variable.levels.items _ c.loop-variable-test.false c.loop-variable.invariant.levels)

pub returns : goal.returns
returns c =
    c.new.ensures ∙ bounds-is c.args.variables c.args.rows.now c.reverse.new.self.items c.ruling.result
    (c.reverse.ensures.items ∙ levels-all c.loop-variable.variable c.loop-variable.said c.loop-variable.levels.items _ c.loop-variable-test.false c.loop-variable.invariant.levels)
    (c.ruling.ensures ∙ ruling-all c.loop-variable.variable c.loop-variable.said _ c.loop-variable-test.false c.loop-variable.invariant.ruling)
