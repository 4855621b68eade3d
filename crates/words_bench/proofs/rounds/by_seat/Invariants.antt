use Rattle.std.proofs.Common.{◌≡◌}
use Rattle.words_bench.specs.Reach.{MayTouchAll}
use Rattle.words_bench.proofs.rounds.by_seat.Given as goal

abbrev pub invariant-loop-round : goal.invariant-loop-round
invariant-loop-round l = (l.seat.table ≡ l.words) × MayTouchAll l.seat.view
