use Rattle.std.proofs.Common.{◌≡◌, ◌∙◌, ap, rules}
use Rattle.nest_lang.specs.Values.{apply_of}
use Rattle.nest_lang.specs.Expressions.{or_trapped}
use Rattle.block_exec.proofs.ExpressionLaws.{told-two}
use Rattle.block_exec.proofs.context.Run.+evaluate.Goals as goal

pub evaluate_parts-returns-in_ok-right-in-Two-clause-value : goal.evaluate_parts-returns-in_ok-right-in-Two-clause-value
evaluate_parts-returns-in_ok-right-in-Two-clause-value g t c =
    let is : c.apply.result ≡ apply_of c.in-Two.op c.in_ok-left-in-Two.left c.in_ok-right-in-Two.right = search rules in
    let left = rw c.get-in-Two.ensures at c.in_ok-left-in-Two.ensures.value in
    let right = rw c.get-in-Two-2.ensures at c.in_ok-right-in-Two.ensures.value in
    rw c.in-Two.is (told-two g.P.Port.memory g.P.Port.expects g.P.Port.basis c.args.site.now c.args.self.now c.evaluate-in-Two.new.self _ _ _ _ _ _ c.in_ok-left-in-Two.ensures.looked left right (c.or_trap-in-Two.ensures.value ∙ ap or_trapped is))
