use Rattle.std.proofs.Common.{◌∙◌, sym, ap, ◌≤◌, ℕ, Option, arith}
use Rattle.std.specs.Prelude.{unwrap_or}
use Rattle.domain.specs.Instances.{instance}
use Rattle.domain.proofs.StepLaws.{next_turn-outermost, turn-repeats, turn-more, turn-last}
use Rattle.domain.proofs.prediction.Prediction.+turn.Goals as goal

pub next_turn-returns-then-around-eq0 : goal.next_turn-returns-then-around-eq0
next_turn-returns-then-around-eq0 g t c = ap (instance 0) c.turned-point.ensures ∙ sym (next_turn-outermost c.args.self.now c.args.around c.args.at.now c.if-around-eq0.true)

pub next_turn-returns-then-repeats : goal.next_turn-returns-then-repeats
next_turn-returns-then-repeats g t c =
    let some : 1 ≤ c.args.around = omega arith in
    turn-repeats c.args.self.now c.args.around c.args.at.now some c.unwrap_or-head.result c.turned-point.result (sym c.repeats.ensures ∙ c.if-repeats.true)
    (c.unwrap_or-head.ensures ∙ ap (λ (o : Option ℕ). unwrap_or o 0) c.rank.ensures.rank) c.turned-point.ensures

pub next_turn-returns-then-goes_on : goal.next_turn-returns-then-goes_on
next_turn-returns-then-goes_on g t c =
    let some : 1 ≤ c.args.around = omega arith in
    turn-more c.args.self.now c.args.around c.args.at.now some c.unwrap_or-head.result c.turned-point.result (sym c.repeats.ensures ∙ c.if-repeats.false) (sym c.goes_on.ensures ∙ c.if-goes_on.true)
    (c.unwrap_or-head.ensures ∙ ap (λ (o : Option ℕ). unwrap_or o 0) c.rank.ensures.rank) c.turned-point.ensures

pub next_turn-returns : goal.next_turn-returns
next_turn-returns g t c =
    let some : 1 ≤ c.args.around = omega arith in
    c.after_loop.ensures ∙ turn-last c.args.self.now c.args.around c.args.at.now some (sym c.repeats.ensures ∙ c.if-repeats.false) (sym c.goes_on.ensures ∙ c.if-goes_on.false)
