use Rattle.std.proofs.Common.{◌≡◌, refl, pos, FitsSigned, rules}
use Rattle.std.specs.Int.{w128}
use Rattle.std.proofs.lemmas.Int.{to_z-of_z}
use Rattle.tiles.proofs.WordLaws.{gains-no_word, gains-word}
use Rattle.tiles.proofs.strip.push_word.Goals as goal

pub returns-in_ok-push-in-Some : goal.returns-in_ok-push-in-Some
returns-in_ok-push-in-Some c =
    let address : FitsSigned w128 c.args.address = search rules in
    let is : pos c.in-Some.word ≡ c.args.address = simp to_z-of_z at c.in-Some.ensures.some.0 in
    rw c.in_ok-push-in-Some.ensures.items (gains-word c.args.words c.args.address c.in-Some.word c.args.list.now.items is c.in-Some.ensures.some.1)

pub returns-in-None : goal.returns-in-None
returns-in-None c =
    let address : FitsSigned w128 c.args.address = search rules in
    gains-no_word c.args.words c.args.address c.args.list.now.items (λ low high. c.in-None.ensures.none refl (simp to_z-of_z low) (simp to_z-of_z high))
