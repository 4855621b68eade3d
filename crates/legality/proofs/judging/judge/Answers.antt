use Rattle.std.proofs.Common.{◌≡◌, ◌∙◌, refl, sym, Some, None, FitsSigned, w64, rules}
use Rattle.std.proofs.lemmas.Int.{to_z-of_z}
use Rattle.legality.specs.declared.refusals.Refusal.{Refusal}
use Rattle.legality.specs.declared.refusals.Judged.TheVariants as answer
use Rattle.legality.proofs.RefusalLaws.{legal-none, none-legal}
use Rattle.legality.proofs.judging.judge.Goals as goal

not-legal : (r : Refusal) → answer.Refused r ≡ answer.Legal → ⊥
not-legal r e = cc

not-none : (r : Refusal) → Some r ≡ None → ⊥
not-none r e = cc

pub returns-in-None-clause-legal : goal.returns-in-None-clause-legal
returns-in-None-clause-legal g c =
    let l : FitsSigned w64 c.args.length = search rules in
    let is = simp to_z-of_z at c.in_ok-refused.ensures in
    (λ e. legal-none c.args.pred.now c.args.schedule.now c.args.length (sym is ∙ c.in-None.is), λ h. refl)

pub returns-in-Some-clause-legal : goal.returns-in-Some-clause-legal
returns-in-Some-clause-legal g c =
    let l : FitsSigned w64 c.args.length = search rules in
    let is = simp to_z-of_z at c.in_ok-refused.ensures in
    (λ e. absurd (not-legal c.in-Some.refusal e), λ h. absurd (not-none c.in-Some.refusal (sym c.in-Some.is ∙ is ∙ none-legal c.args.pred.now c.args.schedule.now c.args.length h)))
