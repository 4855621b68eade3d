use Rattle.std.proofs.Common.{FitsSigned, arith, rules}
use Rattle.std.specs.Int.{w128}
use Rattle.std.proofs.lemmas.Int.{to_z-of_z}
use Rattle.tiles.proofs.WordLaws.{below-all, below-more}
use Rattle.tiles.proofs.strip.Strip.push_words.Goals as goal

pub loop-place-preserved : goal.loop-place-preserved
loop-place-preserved c =
    let address : FitsSigned w128 c.address.result = search rules in
    let gained = simp to_z-of_z at c.in_ok-push_word.ensures in
    below-more c.args.words c.args.self.now c.loop-place.place c.address.result c.args.list.now.items c.loop-place.list.items c.push_word.new.list.items c.address.ensures c.loop-place.invariant gained

pub returns : goal.returns
returns c = below-all _ _ _ _ _ (omega (arith, c.loop-place-test.false, c.loop-place.auto.place-end)) c.loop-place.invariant
