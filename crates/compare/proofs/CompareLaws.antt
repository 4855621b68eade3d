-- The laws of comparisons.
use Rattle.std.proofs.Common.{ap, inl, inr, ⊎_elim}
use Rattle.domain.specs.Instances.{opening_at}
use Rattle.compare.specs.Comparisons.{Comparison}
use Rattle.compare.specs.CompareLaws.{ComparisonFindsFirst, TurnsShowInnerTrips, TasksAreWatchable}
use Rattle.compare.proofs.PredictedChainLaws.{tasks-are-chunks}
use Rattle.compare.proofs.InnerTripLaws.{turns-tell}
use Rattle.compare.proofs.WatchLaws.{shows, keeps}

pub comparison-finds-first : ComparisonFindsFirst
comparison-finds-first t chunk shown c all chain = (
  let is = keeps t chunk shown (opening_at t chunk.first) c (shows t chunk shown (opening_at t chunk.first) c all chain) in record { same_table = is.0; same_chunk = is.1 },
  ⊎_elim (λ h. inl (record { agree = h.0; none = ap (λ (z : Comparison). z.first) h.1; at = ap (λ (z : Comparison). z.at) h.1 }))
      (λ h. inr (record { seen = h.0; first = h.1; found = ap (λ (z : Comparison). z.first) h.2.1 }))
      (shows t chunk shown (opening_at t chunk.first) c all chain),
)

pub turns-show-inner-trips : TurnsShowInnerTrips
turns-show-inner-trips x k loops o c s left = turns-tell x k loops o c s left

pub tasks-are-watchable : TasksAreWatchable
tasks-are-watchable D k words h = record { shape = h.shape; next = tasks-are-chunks D k words h; soon = h.soon; most = h.most }
