use Rattle.std.proofs.Common.{◌≡◌}
use Rattle.shared_words.proofs.tests.claim_all.Given as goal

abbrev pub invariant-loop-tile : goal.invariant-loop-tile
invariant-loop-tile l = (l.seat.table ≡ l.words) × (l.seat.view.plan ≡ l.initial.seat.view.plan)
