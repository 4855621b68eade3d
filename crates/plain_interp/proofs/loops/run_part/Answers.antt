use Rattle.std.proofs.Common.{◌≡◌, refl, ◌+◌, length, rules}
use Rattle.block_exec.specs.Sites.{around_at}
use Rattle.block_exec.specs.Runs.{outside}
use Rattle.plain_interp.proofs.LevelLaws.{no_block, block-at}
use Rattle.plain_interp.proofs.loops.run_part.Goals as goal

pub returns-then-is_empty-clause-ran : goal.returns-then-is_empty-clause-ran
returns-then-is_empty-clause-ran g c = no_block g.W.Watch.may _ c.args.block.now (outside g.P.Port.memory c.args.run.now) (search rules)

pub returns-clause-ran : goal.returns-clause-ran
returns-clause-ran g c =
    let x = g.P.Port.expects c.args.run.now.port.now in
    let place = around_at (c.args.at.now.depth + 1) c.args.places.now in
    block-at g.W.Watch.may c.site-site.result c.block.result x x c.args.part (c.args.at.now.depth + 1) place place c.args.block.now c.args.block.now (outside g.P.Port.memory c.args.run.now) (outside g.P.Port.memory c.block_by.new.self) _ c.site-site.ensures c.block.ensures refl refl refl c.block_by.ensures.ran
