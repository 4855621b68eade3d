-- Instances that follow their prediction, in another order.
use Rattle.std.proofs.Common.{◌≡◌, refl, ap, ◌∙◌, sym, ℕ, ℤ, List, [], ◌∷◌, length, Option, Some, None}
use Rattle.orders.specs.Runs.{Outcome, and_then, follow, plus}
use Rattle.orders.proofs.SwapLaws.{swap_law, apart-from-no-conflict}
use Rattle.orders.proofs.PermutationLaws.{permutation_law}
use Rattle.orders.proofs.SortLaws.{sorted_law}
use Rattle.orders.proofs.ShareLaws.{places_law}
use Rattle.follow.proofs.LawfulLaws.{follow-is-lawful}
use Rattle.follow.proofs.OriginalOrderLaws.{original-order}
use Rattle.follow.specs.Forecasts.{Forecast}
use Rattle.follow.specs.Plans.{planned, Item}
use Rattle.follow.specs.FollowRuns.{follow_one, follow_run}
use Rattle.follow.specs.OriginalOrder.{ranked_key}
use Rattle.follow.specs.Footprints.{follow_machine}
use Rattle.follow.specs.ReorderLaws.{SwapKeeps, PermutationKeeps, PlacesKeep, OrderKeeps}

module _ (p : Forecast) (after : Item → List ℤ) (words : ℕ) where
  then-follow : (o : Option Outcome) (f g : List ℤ → Option Outcome) → ((m : List ℤ) → f m ≡ g m) → and_then o f ≡ and_then o g
  then-follow None f g same = refl
  then-follow (Some r) f g same = ap (plus r.steps) (same r.memory)

  -- a follow run is what the machine of its instances gives
  pub follow-machine : (is : List Item) (m : List ℤ) → follow_run p after is m ≡ follow (follow_machine p after words) is m
  follow-machine [] m = refl
  follow-machine (i ∷ is) m = then-follow (follow_one p after i m) (follow_run p after is) (follow (follow_machine p after words) is) (follow-machine is)

-- two lists of which the machine gives the same
equal-runs : (p : Forecast) (after : Item → List ℤ) (xs ys : List Item) (m : List ℤ) → follow (follow_machine p after (length m)) xs m ≡ follow (follow_machine p after (length m)) ys m
    → follow_run p after xs m ≡ follow_run p after ys m
equal-runs p after xs ys m e = follow-machine p after (length m) xs m ∙ e ∙ sym (follow-machine p after (length m) ys m)

pub swap-keeps : SwapKeeps
swap-keeps p after xs ys x y m apart = equal-runs p after _ _ m (swap_law (follow_machine p after (length m)) (follow-is-lawful p after (length m)) xs ys x y m refl (apart-from-no-conflict _ x y apart))

pub permutation-keeps : PermutationKeeps
permutation-keeps p after xs ys m first second same keeps = equal-runs p after xs ys m (permutation_law (follow_machine p after (length m)) (follow-is-lawful p after (length m)) xs ys m refl first second same keeps)

pub places-keep : PlacesKeep
places-keep p after xs d places m once same keeps = equal-runs p after _ _ m (places_law (follow_machine p after (length m)) (follow-is-lawful p after (length m)) xs d places m refl once same keeps)

pub order-keeps : OrderKeeps
order-keeps p after loops o c second ys m ordering keeps =
    equal-runs p after (planned p loops o c) ys m
    (sorted_law (follow_machine p after (length m)) (follow-is-lawful p after (length m)) (ranked_key p loops) second (planned p loops o c) ys m refl (original-order p loops o c) ordering keeps)
