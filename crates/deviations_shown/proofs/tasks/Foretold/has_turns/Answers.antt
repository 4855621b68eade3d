use Rattle.std.proofs.Common.{◌≡◌, ◌≤◌, ℕ, Some, sym, ◌∙◌, arith, rules}
use Rattle.deviations_shown.proofs.TurnLaws.{turns-counted}
use Rattle.deviations_shown.proofs.tasks.Foretold.has_turns.Goals as goal

pub returns-in-Some : goal.returns-in-Some
returns-in-Some g c = λ h.
    turns-counted c.args.self.now.nest.now.loops c.args.self.now.outer c.args.turns c.requires
    (λ n e. let is : Some c.in-Some.left ≡ Some n = sym c.in-Some.is ∙ e in let few : c.args.turns ≤ c.in-Some.left = search rules in let same : c.in-Some.left ≡ n = cc in omega (arith, few, same))

pub returns-in-None : goal.returns-in-None
returns-in-None g c = λ h.
    turns-counted c.args.self.now.nest.now.loops c.args.self.now.outer c.args.turns c.requires (λ n e. absurd (let is = c.in-None.is in cc))
