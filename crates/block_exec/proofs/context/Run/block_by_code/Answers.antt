use Rattle.std.proofs.Common.{◌≡◌, length, rules}
use Rattle.block_exec.proofs.BlockLaws.{ran-instance, ran-no-instance}
use Rattle.block_exec.proofs.context.Run.block_by_code.Goals as goal

pub returns-then-is_empty-clause-ran : goal.returns-then-is_empty-clause-ran
returns-then-is_empty-clause-ran g c = ran-no-instance g.P.Port.memory g.P.Port.expects g.W.Watch.may c.args.site.now c.args.block.now c.args.self.now (search rules)

pub returns-clause-ran : goal.returns-clause-ran
returns-clause-ran g c =
    let some : length c.args.block.now ≡ 0 → ⊥ = search rules in
    ran-instance g.P.Port.memory g.P.Port.expects g.W.Watch.may c.args.site.now c.args.block.now c.args.self.now c.announce.new.self c.statements_by_code.new.self _ some c.announce.ensures.rest c.announce.ensures.shown c.statements_by_code.ensures.ran
