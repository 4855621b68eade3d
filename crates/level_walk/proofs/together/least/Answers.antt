use Rattle.std.proofs.Common.{rules, ◌≡◌, ◌≤◌, ◌<◌, ◌∷◌, [], length, drop, get_or, refl, sym, subst}
use Rattle.std.specs.Prelude.{MatchOption}
use Rattle.level_walk.proofs.MergeLaws.{chosen-is}
use Rattle.level_walk.specs.Walks.{left_in}
use Rattle.level_walk.proofs.WalkLaws.{blank, head-in, least-end, least-more, stands-at, width-in}
use Rattle.level_walk.proofs.together.least.Goals as goal

pub head-requires : goal.head-requires
head-requires c =
    let few = c.requires.few in
    let inside = c.loop-rank-test.true in
    let room : c.loop-rank.rank < length c.args.states.now = search rules in
    width-in c.args.lows.now c.args.highs.now c.index-blocks-rank.result (get_or c.args.states.now c.loop-rank.rank blank)
    (stands-at c.args.lows.now c.args.highs.now c.args.blocks.now c.args.states.now c.loop-rank.rank c.index-blocks-rank.result (get_or c.args.states.now c.loop-rank.rank blank) blank c.requires.stand c.loop-rank-test.true room c.index-blocks-rank.is refl)

pub loop-rank-preserved : goal.loop-rank-preserved
loop-rank-preserved c =
    let few = c.requires.few in
    let inside = c.loop-rank-test.true in
    let room : c.loop-rank.rank < length c.args.states.now = search rules in
    let all : length c.args.blocks.now ≤ length c.args.states.now = search rules in
    let x = get_or c.args.states.now c.loop-rank.rank blank in
    let stands = stands-at c.args.lows.now c.args.highs.now c.args.blocks.now c.args.states.now c.loop-rank.rank c.index-blocks-rank.result x blank c.requires.stand c.loop-rank-test.true room c.index-blocks-rank.is refl in
    let list = left_in c.args.lows.now c.args.highs.now c.index-blocks-rank.result x in
    least-more c.args.lows.now c.args.highs.now c.args.blocks.now c.args.states.now c.loop-rank.rank c.index-blocks-rank.result x blank c.loop-rank.best c.chosen-best.result _ all c.loop-rank-test.true c.index-blocks-rank.is refl
    (chosen-is c.head.result list c.loop-rank.best c.chosen-best.result c.loop-rank.rank
    (subst (λ o. MatchOption o (list ≡ []) (λ point. list ≡ point.items ∷ drop 1 list)) (sym c.head.ensures) (head-in c.args.lows.now c.args.highs.now c.index-blocks-rank.result x stands)) c.chosen-best.ensures)
    c.loop-rank.invariant

pub returns : goal.returns
returns c =
    let few = c.requires.few in
    let all : length c.args.blocks.now ≤ length c.args.states.now = search rules in
    least-end c.args.lows.now c.args.highs.now c.args.blocks.now c.args.states.now c.loop-rank.rank c.loop-rank.best _ all c.loop-rank-test.false c.loop-rank.invariant
