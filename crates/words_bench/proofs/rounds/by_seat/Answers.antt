use Rattle.std.proofs.Common.{sym, ap, ◌∙◌, subst}
use Rattle.shared_words.specs.Seats.{SeatState}
use Rattle.words_bench.specs.Reach.{MayTouchAll}
use Rattle.words_bench.proofs.rounds.by_seat.Goals as goal

-- a load leaves the seat, and a store what it holds and its plan
pub loop-round-preserved : goal.loop-round-preserved
loop-round-preserved c = (
  c.store.ensures.table ∙ ap (λ (s : SeatState). s.table) c.load-found.ensures.unchanged ∙ c.loop-round.invariant.0,
  subst MayTouchAll (sym c.store.ensures.view) (subst (λ (s : SeatState). MayTouchAll s.view) (sym c.load-found.ensures.unchanged) c.loop-round.invariant.1),
)
