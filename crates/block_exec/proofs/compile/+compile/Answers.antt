use Rattle.std.proofs.Common.{◌≡◌, ◌∙◌, refl, ap, sym, ◌++◌, ◌+◌, ◌≤◌, take, [], ◌∷◌, length, append_assoc, rules}
use Rattle.std.proofs.lemmas.List.{take_all}
use Rattle.std.proofs.Math.Seq.{take-suc}
use Rattle.block_exec.specs.declared.code.Act.TheVariants.{Step, Skip}
use Rattle.block_exec.specs.declared.code.End.TheVariants as end
use Rattle.block_exec.specs.Coded.{IsActs}
use Rattle.block_exec.proofs.ExpressionCodeLaws.{begins-trans, code-more}
use Rattle.block_exec.proofs.BlockCodeLaws.{acts-let, acts-set, acts-store, acts-if, acts-more, acts-next, four-append}
use Rattle.block_exec.proofs.compile.+compile.Goals as goal

pub acts_of-loop-statement-preserved : goal.acts_of-loop-statement-preserved
acts_of-loop-statement-preserved t c =
    let before = c.loop-statement.invariant in
    let got = c.in_ok-push_statement.ensures.acts in
    let more = c.in_ok-push_statement.ensures.begins in
    record {
      acts = rw got.1 (acts-next _ _ c.args.block.now c.loop-statement.statement-index _ c.loop-statement.acts got.0 c.loop-statement-test.true c.statement-item.is more.0 before.acts got.2);
      begins = begins-trans _ _ _ before.begins more.0;
      few = more.1;
    }

pub acts_of-returns-clause-acts : goal.acts_of-returns-clause-acts
acts_of-returns-clause-acts t c = rw (take_all c.loop-statement.statement-index c.args.block.now c.loop-statement-test.false) at c.loop-statement.invariant.acts

pub push_statement-returns-in_ok-push-in-Let-clause-acts : goal.push_statement-returns-in_ok-push-in-Let-clause-acts
push_statement-returns-in_ok-push-in-Let-clause-acts t c =
    let got = c.in_ok-value-in-Let.ensures.code in
    let parts : c.push_expression.new.parts ≡ got.0 = got.1 ∙ ap (λ z. z ++ got.0) c.new-parts.ensures in
    let w = end.Let c.in-Let.number c.in_ok-value-in-Let.value in
    rw c.in-Let.is (Step got.0 w ∷ [], c.in_ok-push-in-Let.ensures.ok ∙ ap (λ z. c.args.acts.now ++ Step z w ∷ []) parts, acts-let _ c.in-Let.number _ got.0 c.in_ok-value-in-Let.value got.2)

pub push_statement-returns-in_ok-push-in-Set-clause-acts : goal.push_statement-returns-in_ok-push-in-Set-clause-acts
push_statement-returns-in_ok-push-in-Set-clause-acts t c =
    let got = c.in_ok-value-in-Set.ensures.code in
    let parts : c.push_expression-in-Set.new.parts ≡ got.0 = got.1 ∙ ap (λ z. z ++ got.0) c.new-parts.ensures in
    let w = end.Set c.in-Set.number c.in_ok-value-in-Set.value in
    rw c.in-Set.is (Step got.0 w ∷ [], c.in_ok-push-in-Set.ensures.ok ∙ ap (λ z. c.args.acts.now ++ Step z w ∷ []) parts, acts-set _ c.in-Set.number _ got.0 c.in_ok-value-in-Set.value got.2)

pub push_statement-returns-in_ok-push-in-Store-clause-acts : goal.push_statement-returns-in_ok-push-in-Store-clause-acts
push_statement-returns-in_ok-push-in-Store-clause-acts t c =
    let a = c.in_ok-address-in-Store.ensures.code in
    let b = c.in_ok-value-in-Store.ensures.code in
    let parts : c.push_expression-in-Store-2.new.parts ≡ a.0 ++ b.0 = b.1 ∙ ap (λ z. z ++ b.0) (a.1 ∙ ap (λ z. z ++ a.0) c.new-parts.ensures) in
    let w = end.Store c.in-Store.access c.in_ok-address-in-Store.address c.in_ok-value-in-Store.value in
    let first = code-more _ c.push_expression-in-Store-2.new.inputs _ 0 a.0 c.in_ok-address-in-Store.address (c.in_ok-value-in-Store.ensures.begins.0) a.2 in
    rw c.in-Store.is (Step (a.0 ++ b.0) w ∷ [], c.in_ok-push-in-Store.ensures.ok ∙ ap (λ z. c.args.acts.now ++ Step z w ∷ []) parts, acts-store _ c.in-Store.access _ _ a.0 b.0 c.in_ok-address-in-Store.address c.in_ok-value-in-Store.value first b.2)

pub push_statement-returns-in_ok-append-in-If-2-clause-acts : goal.push_statement-returns-in_ok-append-in-If-2-clause-acts
push_statement-returns-in_ok-append-in-If-2-clause-acts t c =
    let got = c.in_ok-condition-in-If.ensures.code in
    let parts : c.push_expression-in-If.new.parts ≡ got.0 = got.1 ∙ ap (λ z. z ++ got.0) c.new-parts.ensures in
    let begin_one = c.in_ok-first-in-If.ensures.begins.0 in
    let begin_two = c.in_ok-second-in-If.ensures.begins.0 in
    let early = rw c.as_slice.ensures at c.in_ok-first-in-If.ensures.acts in
    let one = acts-more _ _ _ _ begin_two early in
    let two = rw c.as_slice-in-If.ensures at c.in_ok-second-in-If.ensures.acts in
    let a = c.in_ok-first-in-If.first in
    let b = c.in_ok-second-in-If.second in
    let o = c.in_ok-condition-in-If.condition in
    let code = code-more _ _ _ 0 got.0 o (begins-trans _ _ _ begin_one begin_two) got.2 in
    let n : c.in_ok-past_first-in-If.past_first ≡ length a + 1 = c.in_ok-past_first-in-If.ensures ∙ ap (λ k. k + 1) c.len.ensures in
    let m : c.in_ok-past_second-in-If.past_second ≡ length b = c.in_ok-past_second-in-If.ensures ∙ c.len-in-If.ensures in
    let x = Step got.0 (end.Unless o (length a + 1)) in
    let k = Skip (length b) in
    let first : c.push-in-If.new.self ≡ c.args.acts.now ++ x ∷ [] = c.in_ok-push-in-If.ensures.ok ∙ ap (λ z. c.args.acts.now ++ Step z (end.Unless o c.in_ok-past_first-in-If.past_first) ∷ []) parts ∙ ap (λ z. c.args.acts.now ++ Step got.0 (end.Unless o z) ∷ []) n in
    let second : c.append.new.self ≡ (c.args.acts.now ++ x ∷ []) ++ a = c.in_ok-append-in-If.ensures ∙ ap (λ z. z ++ a) first in
    let third : c.push-in-If-2.new.self ≡ ((c.args.acts.now ++ x ∷ []) ++ a) ++ k ∷ [] = c.in_ok-push-in-If-2.ensures.ok ∙ ap (λ z. z ++ Skip c.in_ok-past_second-in-If.past_second ∷ []) second ∙ ap (λ z. ((c.args.acts.now ++ x ∷ []) ++ a) ++ Skip z ∷ []) m in
    let last : c.append-in-If.new.self ≡ c.args.acts.now ++ (x ∷ (a ++ k ∷ b)) = c.in_ok-append-in-If-2.ensures ∙ ap (λ z. z ++ b) third ∙ four-append c.args.acts.now a b x k in
    rw c.in-If.is (x ∷ (a ++ k ∷ b), last, acts-if _ _ _ _ got.0 o a b code one two)
