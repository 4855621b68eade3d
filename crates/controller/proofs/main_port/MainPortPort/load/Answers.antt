use Rattle.std.proofs.Common.{◌≡◌, ◌∙◌, ap, sym, subst, ℕ, ◌<◌, ℤ, pos, ◌≤ℤ◌, Ok, Result, get_or, unsigned_abs, w64, to_z, of_z}
use Rattle.std.specs.Int.{cast_signed}
use Rattle.std.proofs.lemmas.Int.{to_z-of_z}
use Rattle.nest_lang.specs.declared.observe.Stop.{Stop}
use Rattle.controller.proofs.MainSeatLaws.{look-signed-found}
use Rattle.controller.proofs.main_port.MainPortPort.load.Goals as goal

pub returns-clause-answer : goal.returns-clause-answer
returns-clause-answer c =
    let base = c.args.self.now.main.now.view.base in let ok : ℤ → Result ℤ Stop = λ z. Ok z in
    let address : to_z w64 (of_z w64 c.args.address) ≡ c.args.address = to_z-of_z w64 c.args.address c.ranges.address in
    let round : to_z w64 (of_z w64 c.load.result) ≡ c.load.result = to_z-of_z w64 c.load.result (record { sfits = c.load.type_inv }) in
    let is = c.is_word.ensures.0 c.if-not-is_word.false in
    let from : pos 0 ≤ℤ c.args.address = subst (λ (z : ℤ). pos 0 ≤ℤ z) address is.0 in
    let below = subst (λ (n : ℕ). unsigned_abs c.args.address < n) c.count.ensures (subst (λ (z : ℤ). unsigned_abs z < c.count.result) address is.1) in
    ap ok (round ∙ c.load.ensures.value ∙ ap (λ (a : ℕ). cast_signed w64 (get_or base a 0)) (ap unsigned_abs address)) ∙ sym (look-signed-found _ base c.args.address from below)
