use Rattle.std.proofs.Common.{◌∙◌, ap, ◌++◌, ◌∷◌, []}
use Rattle.report.specs.declared.line.Line.{Line}
use Rattle.controller.proofs.JudgedLaws.{refusals-told}
use Rattle.controller.proofs.judging.tell_refused.Goals as goal

pub loop-place-preserved : goal.loop-place-preserved
loop-place-preserved c =
    refusals-told c.args.nest.now.loops c.args.refusals.now c.loop-place.place _ c.args.lines.now.items c.loop-place.lines.items c.push.new.self.items c.loop-place-test.true c.loop-place.invariant
    (c.in_ok-push.ensures.items ∙ ap (λ (l : Line). c.loop-place.lines.items ++ l ∷ []) c.illegal_line.ensures)
