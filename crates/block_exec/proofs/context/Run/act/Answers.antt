use Rattle.std.proofs.Common.{◌≡◌, ◌∙◌, ◌<◌, ap, sym, refl, Err, rules}
use Rattle.block_exec.specs.Sites.{frame_at}
use Rattle.block_exec.specs.declared.halt.Cut.TheVariants as cutting_by
use Rattle.block_exec.specs.Runs.{within}
use Rattle.block_exec.proofs.ActLaws.{acted-skips, acted-due}
use Rattle.block_exec.proofs.ActRunLaws.{act-stops, act-goes, act-refused}
use Rattle.block_exec.proofs.context.Run.act.Goals as goal

pub returns-in-Skip-clause-acted : goal.returns-in-Skip-clause-acted
returns-in-Skip-clause-acted g c =
    acted-skips (frame_at c.args.site.now (g.P.Port.expects c.args.self.now.port.now)) g.W.Watch.may c.args.acts.now c.args.at c.index-acts-at.result (within g.P.Port.memory c.args.self.now) _ c.args.self.now.halt c.args.registers.now.values c.requires.at c.in-Skip.count (sym c.in-Skip.is ∙ c.index-acts-at.is) refl

pub returns-then-not-take-clause-acted : goal.returns-then-not-take-clause-acted
returns-then-not-take-clause-acted g c =
    let none : 0 < c.args.self.now.steps.left → ⊥ = search rules in
    acted-due (frame_at c.args.site.now (g.P.Port.expects c.args.self.now.port.now)) g.W.Watch.may c.args.acts.now c.args.at c.index-acts-at.result (within g.P.Port.memory c.args.self.now) _ c.args.self.now.halt c.args.registers.now.values c.requires.at c.in-Step.instructions c.in-Step.end (sym c.in-Step.is ∙ c.index-acts-at.is) none refl c.take.ensures.left c.take.ensures.used refl

pub returns-in_err-instructions-in-Step-clause-acted : goal.returns-in_err-instructions-in-Step-clause-acted
returns-in_err-instructions-in-Step-clause-acted g c =
    let some : 0 < c.args.self.now.steps.left = search rules in
    let is : c.from_residual.result ≡ Err cutting_by.Halted = search rules in
    let slice = c.as_slice.ensures in
    let err = rw slice at c.in_err-instructions-in-Step.ensures.value in
    let chain = rw slice at c.in_err-instructions-in-Step.ensures.watch in
    rw is (act-stops g.P.Port.memory g.P.Port.expects g.P.Port.basis g.W.Watch.may c.args.site.now c.args.acts.now c.args.at c.index-acts-at.result c.in-Step.instructions c.in-Step.end c.args.self.now c.instructions.new.self c.args.registers.now.values c.instructions.new.registers.values c.take.new.self c.requires.at (sym c.in-Step.is ∙ c.index-acts-at.is) some c.take.ensures.left c.take.ensures.used c.in_err-instructions-in-Step.ensures.looked chain err)

pub returns-in_err-skips-in-Step-clause-acted : goal.returns-in_err-skips-in-Step-clause-acted
returns-in_err-skips-in-Step-clause-acted g c =
    let some : 0 < c.args.self.now.steps.left = search rules in
    let is : c.from_residual-in_err-skips-in-Step.result ≡ Err cutting_by.Halted = search rules in
    let slice = c.as_slice.ensures in
    let ok = rw slice at c.in_ok-instructions-in-Step.ensures.value in
    let chain = rw slice at c.in_ok-instructions-in-Step.ensures.watch in
    rw is (act-refused g.P.Port.memory g.P.Port.expects g.P.Port.basis g.W.Watch.may c.args.site.now c.args.acts.now c.args.at c.index-acts-at.result c.in-Step.instructions c.in-Step.end c.args.self.now c.instructions.new.self c.args.registers.now.values c.instructions.new.registers.values c.take.new.self c.requires.at (sym c.in-Step.is ∙ c.index-acts-at.is) some c.take.ensures.left c.take.ensures.used c.in_ok-instructions-in-Step.ensures.looked chain
    c.finish.new.self ok c.in_err-skips-in-Step.ensures.steps c.in_err-skips-in-Step.ensures.watch _ c.in_err-skips-in-Step.ensures.done)

pub returns-in_ok-skips-in-Step-clause-acted : goal.returns-in_ok-skips-in-Step-clause-acted
returns-in_ok-skips-in-Step-clause-acted g c =
    let some : 0 < c.args.self.now.steps.left = search rules in
    let slice = c.as_slice.ensures in
    let ok = rw slice at c.in_ok-instructions-in-Step.ensures.value in
    let chain = rw slice at c.in_ok-instructions-in-Step.ensures.watch in
    act-goes g.P.Port.memory g.P.Port.expects g.P.Port.basis g.W.Watch.may c.args.site.now c.args.acts.now c.args.at c.index-acts-at.result c.in-Step.instructions c.in-Step.end c.args.self.now c.instructions.new.self c.args.registers.now.values c.instructions.new.registers.values c.take.new.self c.requires.at (sym c.in-Step.is ∙ c.index-acts-at.is) some c.take.ensures.left c.take.ensures.used c.in_ok-instructions-in-Step.ensures.looked chain
    c.finish.new.self ok c.in_ok-skips-in-Step.ensures.steps c.in_ok-skips-in-Step.ensures.watch c.in_ok-skips-in-Step.skips _ c.in_ok-skips-in-Step.ensures.done
