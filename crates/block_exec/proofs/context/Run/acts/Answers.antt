use Rattle.std.proofs.Common.{◌≡◌, Err, rules}
use Rattle.block_exec.proofs.ActLaws.{acted-trans, acted-end, acted-cut}
use Rattle.block_exec.proofs.RunLaws.{kept-trans}
use Rattle.block_exec.proofs.context.Run.acts.Goals as goal

pub returns-clause-ran : goal.returns-clause-ran
returns-clause-ran g c = acted-end g.W.Watch.may _ _ c.acts.at _ _ _ _ c.args.self.now.halt c.acts.invariant.acted c.acts-test.false
