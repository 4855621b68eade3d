use Rattle.shared_words.proofs.EmptyTileLaws.{AreEmpty}
use Rattle.crew_shown.proofs.tiles.plan_of.Given as goal

abbrev pub invariant-loop-tile : goal.invariant-loop-tile
invariant-loop-tile l = AreEmpty l.all.items
