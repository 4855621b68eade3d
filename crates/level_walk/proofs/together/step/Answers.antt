use Rattle.std.proofs.Common.{rules, ◌<◌, length, get_or, refl}
use Rattle.level_walk.proofs.WalkLaws.{blank, left-set, stands-at, stands-set}
use Rattle.level_walk.proofs.together.step.Goals as goal

pub step-requires-clause-stands : goal.step-requires-clause-stands
step-requires-clause-stands c =
    let few = c.requires.blocks.few in
    let inside = c.requires.inside in
    let room : c.args.rank < length c.args.states.now = search rules in
    stands-at c.args.lows.now c.args.highs.now c.args.blocks.now c.args.states.now c.args.rank c.index-blocks-rank.result (get_or c.args.states.now c.args.rank blank) blank c.requires.stand c.requires.inside room c.index-blocks-rank.is refl

pub returns-clause-stand : goal.returns-clause-stand
returns-clause-stand c =
    stands-set c.args.lows.now c.args.highs.now c.args.blocks.now c.args.states.now c.args.rank c.index-blocks-rank.result c.step.new.state c.requires.stand c.requires.inside c.index-blocks-rank.is c.step.ensures.stands

pub returns-clause-left : goal.returns-clause-left
returns-clause-left c =
    let few = c.requires.blocks.few in
    let inside = c.requires.inside in
    let room : c.args.rank < length c.args.states.now = search rules in
    left-set c.args.lows.now c.args.highs.now c.args.blocks.now c.args.states.now c.args.rank c.index-blocks-rank.result (get_or c.args.states.now c.args.rank blank) blank c.step.new.state c.requires.inside room c.index-blocks-rank.is refl c.step.ensures.left
