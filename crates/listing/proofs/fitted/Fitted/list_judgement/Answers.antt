use Rattle.std.proofs.Common.{sym, subst, ◌∙◌, ℕ, ◌<◌, FitsSigned, w64, rules}
use Rattle.std.proofs.lemmas.Int.{to_z-of_z}
use Rattle.listing.proofs.PresentLaws.{refusal-listed}
use Rattle.listing.proofs.fitted.Fitted.list_judgement.Goals as goal

pub illegal-requires-clause-first : goal.illegal-requires-clause-first
illegal-requires-clause-first g c =
    let l : FitsSigned w64 c.args.self.now.length = search rules in
    let r = c.in-Refused.refusal in
    let is = simp to_z-of_z at c.in_ok-judge.ensures.value in
    subst (λ (n : ℕ). r.first.block < n) c.requires.blocks (refusal-listed c.args.self.now.pred.now c.in-Some.schedule c.args.self.now.length r (sym is ∙ c.in-Refused.is)).first

pub illegal-requires-clause-second : goal.illegal-requires-clause-second
illegal-requires-clause-second g c =
    let l : FitsSigned w64 c.args.self.now.length = search rules in
    let r = c.in-Refused.refusal in
    let is = simp to_z-of_z at c.in_ok-judge.ensures.value in
    subst (λ (n : ℕ). r.second.block < n) c.requires.blocks (refusal-listed c.args.self.now.pred.now c.in-Some.schedule c.args.self.now.length r (sym is ∙ c.in-Refused.is)).second
