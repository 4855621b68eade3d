use Rattle.std.proofs.Common.{◌≡◌, ◌∙◌, ◌<◌, ◌++◌, ◌∷◌, [], List, ℤ, ap, length, rules}
use Rattle.std.specs.Int.{w64, cast_signed}
use Rattle.std.specs.Prelude.{slice_index}
use Rattle.shared_words.specs.Seats.{SeatState}
use Rattle.controller.proofs.WordLaws.{words-more}
use Rattle.controller.proofs.machine.words_of.Goals as goal

pub loop-address-preserved : goal.loop-address-preserved
loop-address-preserved c =
    let items : c.push.new.self.items ≡ c.loop-address.memory.items ++ c.load.result ∷ [] = search rules in
    let few : c.loop-address.address < length c.args.main.now.view.base = search rules in
    let value : c.load.result ≡ cast_signed w64 (slice_index c.args.main.now.view.base c.loop-address.address) =
    c.load.ensures.value ∙ ap (λ (m : SeatState). cast_signed w64 (slice_index m.view.base c.loop-address.address)) c.loop-address.invariant.0 in (
      c.load.ensures.unchanged ∙ c.loop-address.invariant.0,
      items ∙ ap (λ (xs : List ℤ). xs ++ c.load.result ∷ []) c.loop-address.invariant.1 ∙ words-more c.args.main.now.view.base c.loop-address.address c.load.result few value,
    )
