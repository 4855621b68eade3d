use Rattle.std.proofs.Common.{subst, ◌∙◌, ℕ, ◌<◌, get_or, FitsSigned, w64, rules}
use Rattle.std.proofs.lemmas.Int.{to_z-of_z}
use Rattle.listing.proofs.PresentLaws.{dependence-at, no_dependence}
use Rattle.listing.proofs.fitted.Fitted.list_dependences.Goals as goal

pub depends_line-requires-clause-first : goal.depends_line-requires-clause-first
depends_line-requires-clause-first g c =
    let l : FitsSigned w64 c.args.self.now.length = search rules in
    let items = c.deref-dependence-items.result.now in
    let k = c.loop-dependence.dependence-index in
    let is = simp to_z-of_z at c.in_ok-found.ensures in
    subst (λ (n : ℕ). (get_or items k no_dependence).first.block < n) c.requires.blocks (dependence-at c.args.self.now.pred.now c.args.self.now.length items k (c.deref-dependence-items.ensures.value ∙ is) c.loop-dependence-test.true).first

pub depends_line-requires-clause-second : goal.depends_line-requires-clause-second
depends_line-requires-clause-second g c =
    let l : FitsSigned w64 c.args.self.now.length = search rules in
    let items = c.deref-dependence-items.result.now in
    let k = c.loop-dependence.dependence-index in
    let is = simp to_z-of_z at c.in_ok-found.ensures in
    subst (λ (n : ℕ). (get_or items k no_dependence).second.block < n) c.requires.blocks (dependence-at c.args.self.now.pred.now c.args.self.now.length items k (c.deref-dependence-items.ensures.value ∙ is) c.loop-dependence-test.true).second
