use Rattle.std.proofs.Common.{rules, sym, subst}
use Rattle.level_walk.specs.Merges.{AllOrdered}
use Rattle.level_walk.proofs.MergeLaws.{all-at}
use Rattle.level_walk.specs.Walks.{IsBlock}
use Rattle.level_walk.proofs.WalkLaws.{points-all-ordered, started-end, started-more}
use Rattle.level_walk.proofs.together.start.Goals as goal

pub started-requires-clause-block : goal.started-requires-clause-block
started-requires-clause-block c = all-at (IsBlock c.args.variables) c.args.blocks.now c.loop-rank.rank c.index-blocks-rank.result c.requires.blocks.all c.loop-rank-test.true c.index-blocks-rank.is

pub loop-rank-preserved : goal.loop-rank-preserved
loop-rank-preserved c =
    started-more c.args.lows.now c.args.highs.now c.args.blocks.now c.loop-rank.states c.loop-rank.rank c.index-blocks-rank.result c.started.result c.requires.blocks.few c.loop-rank-test.true c.index-blocks-rank.is c.loop-rank.invariant
    c.started.ensures.stands c.started.ensures.left

pub returns-clause-stand : goal.returns-clause-stand
returns-clause-stand c = (started-end c.args.lows.now c.args.highs.now c.args.blocks.now c.loop-rank.states c.loop-rank.rank (search rules) c.loop-rank.invariant).0

pub returns-clause-ordered : goal.returns-clause-ordered
returns-clause-ordered c =
    subst AllOrdered (sym (started-end c.args.lows.now c.args.highs.now c.args.blocks.now c.loop-rank.states c.loop-rank.rank (search rules) c.loop-rank.invariant).1) (points-all-ordered c.args.lows.now c.args.highs.now c.args.variables c.args.blocks.now c.requires.blocks.all)

pub returns-clause-left : goal.returns-clause-left
returns-clause-left c = (started-end c.args.lows.now c.args.highs.now c.args.blocks.now c.loop-rank.states c.loop-rank.rank (search rules) c.loop-rank.invariant).1
