use Rattle.std.proofs.Common.{◌∷◌, refl, sym, subst, ap, ◌∙◌, ◌≤◌, length, rules, arith}
use Rattle.level_walk.specs.Merges.{AllOrdered, merged}
use Rattle.level_walk.proofs.MergeLaws.{first-none, first-some, stepped-ordered}
use Rattle.level_walk.specs.Walks.{all_left}
use Rattle.level_walk.proofs.WalkLaws.{left-length}
use Rattle.level_walk.proofs.together.next.Goals as goal

pub returns-in_err-best-clause-none : goal.returns-in_err-best-clause-none
returns-in_err-best-clause-none c = λ _. (first-none (all_left c.args.lows.now c.args.highs.now c.args.blocks.now c.args.states.now) c.requires.ordered (sym c.in_err-best.ensures), refl)

pub step-requires-clause-inside : goal.step-requires-clause-inside
step-requires-clause-inside c =
    let few = c.requires.blocks.few in
    let room : length c.args.blocks.now ≤ length c.args.states.now = search rules in
    let size = left-length c.args.lows.now c.args.highs.now c.args.blocks.now c.args.states.now room in
    let below = (first-some (all_left c.args.lows.now c.args.highs.now c.args.blocks.now c.args.states.now) c.in_ok-best.best c.requires.ordered (sym c.in_ok-best.ensures)).0 in
    omega (arith, size, below)

pub returns-clause-some : goal.returns-clause-some
returns-clause-some c =
    (first-some (all_left c.args.lows.now c.args.highs.now c.args.blocks.now c.args.states.now) c.in_ok-best.best c.requires.ordered (sym c.in_ok-best.ensures)).1
    ∙ ap (λ l. c.in_ok-best.best ∷ merged l) (sym c.step.ensures.left)

pub returns-clause-ordered : goal.returns-clause-ordered
returns-clause-ordered c = subst AllOrdered (sym c.step.ensures.left) (stepped-ordered (all_left c.args.lows.now c.args.highs.now c.args.blocks.now c.args.states.now) c.in_ok-best.best.rank c.requires.ordered)
