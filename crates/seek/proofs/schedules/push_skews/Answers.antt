use Rattle.std.proofs.Common.{◌≡◌, ◌≤◌, ◌+◌, ◌-◌, ◌++◌, ◌∙◌, ap, List, arith}
use Rattle.nest_lang.specs.declared.command.Command.{Command}
use Rattle.seek.specs.ScheduleLists.{skew_by}
use Rattle.seek.proofs.ScriptLaws.{skews-next, skews_to-end}
use Rattle.seek.proofs.schedules.push_skews.Goals as goal

pub loop-row-preserved : goal.loop-row-preserved
loop-row-preserved c =
    let (script, long) = c.loop-row.invariant in
    let from = c.loop-row.auto.row in (
      skews-next c.args.depth c.args.factors c.loop-row.row c.args.script.now c.loop-row.script c.push_skew.new.script from script
          (c.push_skew.ensures.value ∙ ap (λ m. c.loop-row.script ++ skew_by c.loop-row.row m) c.factor.ensures.value),
      omega (arith, long, c.push_skew.ensures.few, from),
    )

pub returns-clause-value : goal.returns-clause-value
returns-clause-value c =
    let (script, long) = c.loop-row.invariant in
    let some = c.requires.some in
    let end : c.loop-row.row ≤ c.args.depth + 1 = c.loop-row.auto.row-end (omega (arith, some)) in
    let last : c.loop-row.row - 2 ≡ c.args.depth - 1 = omega (arith, c.loop-row-test.false, c.loop-row.auto.row, end) in
    script ∙ ap (λ (xs : List Command). c.args.script.now ++ xs) (skews_to-end c.args.depth c.args.factors c.loop-row.row last)

pub returns-clause-few : goal.returns-clause-few
returns-clause-few c =
    let (script, long) = c.loop-row.invariant in
    let some = c.requires.some in
    let end : c.loop-row.row ≤ c.args.depth + 1 = c.loop-row.auto.row-end (omega (arith, some)) in
    omega (arith, long, c.requires.few, c.loop-row.auto.row, end)
