use Rattle.std.proofs.Common.{◌≡◌, ◌∙◌, ap, sym, subst, ℕ, ◌<◌, ℤ, pos, ◌≤ℤ◌, set, unsigned_abs, w64, to_z, of_z}
use Rattle.std.specs.Int.{cast_unsigned}
use Rattle.std.proofs.lemmas.Int.{to_z-of_z}
use Rattle.core_steps.specs.declared.view.View.{View}
use Rattle.shared_words.specs.Memories.{signed}
use Rattle.block_exec.specs.Ports.{without_word}
use Rattle.controller.proofs.MainSeatLaws.{look-signed-found, signed-set}
use Rattle.controller.proofs.main_port.MainPortPort.store.Goals as goal

pub returns-clause-answer : goal.returns-clause-answer
returns-clause-answer c =
    let base = c.args.self.now.main.now.view.base in
    let address : to_z w64 (of_z w64 c.args.address) ≡ c.args.address = to_z-of_z w64 c.args.address c.ranges.address in
    let is = c.is_word.ensures.0 c.if-not-is_word.false in
    let from : pos 0 ≤ℤ c.args.address = subst (λ (z : ℤ). pos 0 ≤ℤ z) address is.0 in
    let below = subst (λ (n : ℕ). unsigned_abs c.args.address < n) c.count.ensures (subst (λ (z : ℤ). unsigned_abs z < c.count.result) address is.1) in
    sym (ap without_word (look-signed-found _ base c.args.address from below))

pub returns-clause-memory : goal.returns-clause-memory
returns-clause-memory c =
    let base = c.args.self.now.main.now.view.base in
    let address : to_z w64 (of_z w64 c.args.address) ≡ c.args.address = to_z-of_z w64 c.args.address c.ranges.address in
    let place = unsigned_abs (to_z w64 (of_z w64 c.args.address)) in
    ap (λ (v : View). signed v.base) c.store.ensures.view
    ∙ ap (λ (z : ℤ). signed (set base place (cast_unsigned w64 z))) (to_z-of_z w64 c.args.value c.ranges.value)
    ∙ signed-set base place c.args.value c.ranges.value
    ∙ ap (λ (a : ℕ). set (signed base) a c.args.value) (ap unsigned_abs address)
