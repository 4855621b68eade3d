use Rattle.std.proofs.Common.{◌≡◌, length}
use Rattle.shared_words.proofs.EmptyTileLaws.{AreEmpty}
use Rattle.shared_words.proofs.tests.empty_tiles.Given as goal

abbrev pub invariant-loop-tile : goal.invariant-loop-tile
invariant-loop-tile l = (length l.all.items ≡ l._tile) × AreEmpty l.all.items
