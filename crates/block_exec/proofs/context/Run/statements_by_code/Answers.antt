use Rattle.std.proofs.Common.{◌≡◌, length}
use Rattle.block_exec.specs.Sites.{frame_at}
use Rattle.block_exec.proofs.CodedRunLaws.{ran-statements}
use Rattle.block_exec.proofs.context.Run.statements_by_code.Goals as goal

pub returns-clause-ran : goal.returns-clause-ran
returns-clause-ran g c =
    let hold = rw c.as_slice.ensures at c.fill.ensures.holds in
    let ran = rw c.as_slice-2.ensures at c.acts.ensures.ran in
    ran-statements g.W.Watch.may (frame_at c.args.site.now (g.P.Port.expects c.args.self.now.port.now)) c.args.code.now.inputs c.args.block.now c.args.code.now.acts c.fill.new.self.values _ _ _ c.requires.code.is c.fill.ensures.room hold ran
