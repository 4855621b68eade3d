use Rattle.domain.specs.Footprints.{Gains}
use Rattle.tiles.proofs.WordLaws.{IsWordBelow}
use Rattle.tiles.proofs.strip.Strip.push_words.Given as goal

abbrev pub invariant-loop-place : goal.invariant-loop-place
invariant-loop-place l = Gains (IsWordBelow l.words l.self l.place) l.initial.list.items l.list.items
