use Rattle.std.proofs.Common.{◌≡◌, ◌∙◌, sym, ap, ◌+◌, true, false, nat_lt, arith}
use Rattle.std.proofs.lemmas.Bool.Decides.{nat_tests}
use Rattle.domain.specs.Tables.{depth}
use Rattle.domain.specs.Instances.{Instance, instance}
use Rattle.domain.proofs.StepLaws.{next-of, next-head, next-pre, next-post}
use Rattle.domain.proofs.prediction.Prediction.next.Goals as goal

pub returns-then-ends_loop-clause-next : goal.returns-then-ends_loop-clause-next
returns-then-ends_loop-clause-next g c =
    c.after_loop.ensures
    ∙ sym (next-of c.args.self.now c.args.inst.now _ _ _ c.inst.view_is c.block-block.ensures.block c.block.view_is
    ∙ next-head c.args.self.now c.block.inside.level c.inst.inside.block c.inst.inside.at true c.block.inside.part c.in-Head.is (sym c.ends_loop.ensures ∙ c.if-ends_loop.true))

pub returns-else-ends_loop-clause-next : goal.returns-else-ends_loop-clause-next
returns-else-ends_loop-clause-next g c =
    c.ahead.ensures ∙ ap (λ (x : Instance). instance (x.block + 1) x.at) (sym c.inst.view_is)
    ∙ sym (next-of c.args.self.now c.args.inst.now _ _ _ c.inst.view_is c.block-block.ensures.block c.block.view_is
    ∙ next-head c.args.self.now c.block.inside.level c.inst.inside.block c.inst.inside.at false c.block.inside.part c.in-Head.is (sym c.ends_loop.ensures ∙ c.if-ends_loop.false))

pub returns-then-level-clause-next : goal.returns-then-level-clause-next
returns-then-level-clause-next g c =
    let deep = c.block-block.ensures.deep in
    let test : nat_lt c.block.inside.level (depth c.args.self.now) ≡ true = grind (arith, nat_tests) in
    c.ahead-then-level.ensures ∙ ap (λ (x : Instance). instance (x.block + 1) x.at) (sym c.inst.view_is)
    ∙ sym (next-of c.args.self.now c.args.inst.now _ _ _ c.inst.view_is c.block-block.ensures.block c.block.view_is
    ∙ next-pre c.args.self.now c.block.inside.level c.inst.inside.block c.inst.inside.at true c.block.inside.part c.in-Pre.is test)

pub returns-else-level-clause-next : goal.returns-else-level-clause-next
returns-else-level-clause-next g c =
    let deep = c.block-block.ensures.deep in
    let test : nat_lt c.block.inside.level (depth c.args.self.now) ≡ false = grind (arith, nat_tests) in
    c.next_turn.ensures
    ∙ sym (next-of c.args.self.now c.args.inst.now _ _ _ c.inst.view_is c.block-block.ensures.block c.block.view_is
    ∙ next-pre c.args.self.now c.block.inside.level c.inst.inside.block c.inst.inside.at false c.block.inside.part c.in-Pre.is test)

pub returns-in-Post-clause-next : goal.returns-in-Post-clause-next
returns-in-Post-clause-next g c =
    c.next_turn-in-Post.ensures
    ∙ sym (next-of c.args.self.now c.args.inst.now _ _ _ c.inst.view_is c.block-block.ensures.block c.block.view_is
    ∙ next-post c.args.self.now c.block.inside.level c.inst.inside.block c.inst.inside.at c.block.inside.part c.in-Post.is)
