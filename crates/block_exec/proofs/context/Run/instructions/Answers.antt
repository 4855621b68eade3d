use Rattle.std.proofs.Common.{◌≡◌, ◌∙◌, ap, sym, refl, Err, rules}
use Rattle.block_exec.proofs.InstructionLaws.{gone-next, gone-out, gone-end, gone-seen-next, gone-seen-out, gone-seen-end, instruction-again, looked-trans}
use Rattle.block_exec.proofs.context.Run.instructions.Goals as goal

pub loop-one-preserved : goal.loop-one-preserved
loop-one-preserved g c =
    let before = c.loop-one.invariant in
    let again = instruction-again g.P.Port.memory g.P.Port.expects g.P.Port.basis c.args.site.now c.args.self.now c.loop-one.self _ c.loop-one.registers.values before.looked in
    let value = c.in_ok-instruction.ensures.value ∙ ap (λ g. g.registers) again in
    let shown = rw again at c.in_ok-instruction.ensures.watch in
    record {
      looked = looked-trans _ _ _ _ _ _ before.looked c.in_ok-instruction.ensures.looked;
      rest = gone-next _ _ _ _ _ _ _ _ _ _ _ value c.loop-one-test.true refl before.rest;
      shown = gone-seen-next _ _ _ _ g.W.Watch.may _ _ _ _ _ _ _ _ _ _ value c.loop-one-test.true refl shown before.shown;
    }

pub returns-in_err-instruction-clause-value : goal.returns-in_err-instruction-clause-value
returns-in_err-instruction-clause-value g c =
    let before = c.loop-one.invariant in
    let again = instruction-again g.P.Port.memory g.P.Port.expects g.P.Port.basis c.args.site.now c.args.self.now c.loop-one.self _ c.loop-one.registers.values before.looked in
    let value = c.in_err-instruction.ensures.value ∙ ap (λ g. g.registers) again in
    let is : c.from_residual.result ≡ Err c.in_err-instruction.field-0.0 = search rules in
    rw is (gone-out _ _ _ _ _ _ _ _ _ _ _ value c.loop-one-test.true refl before.rest)

pub returns-in_err-instruction-clause-watch : goal.returns-in_err-instruction-clause-watch
returns-in_err-instruction-clause-watch g c =
    let before = c.loop-one.invariant in
    let again = instruction-again g.P.Port.memory g.P.Port.expects g.P.Port.basis c.args.site.now c.args.self.now c.loop-one.self _ c.loop-one.registers.values before.looked in
    let value = c.in_err-instruction.ensures.value ∙ ap (λ g. g.registers) again in
    let shown = rw again at c.in_err-instruction.ensures.watch in
    gone-seen-out _ _ _ _ g.W.Watch.may _ _ _ _ _ _ _ _ _ _ value c.loop-one-test.true refl shown before.shown

pub returns-clause-value : goal.returns-clause-value
returns-clause-value g c = gone-end _ _ _ _ _ _ _ _ c.loop-one-test.false c.loop-one.invariant.rest

pub returns-clause-watch : goal.returns-clause-watch
returns-clause-watch g c = gone-seen-end _ _ _ _ g.W.Watch.may _ _ _ _ _ _ c.loop-one-test.false c.loop-one.invariant.shown
