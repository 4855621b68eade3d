-- What instances leave as a machine is their follow run.
use Rattle.std.proofs.Common.{refl, ap, ℤ, List, [], ◌∷◌, Option}
use Rattle.orders.specs.Runs.{Outcome, and_then}
use Rattle.follow.specs.FollowRuns.{follow_one}
use Rattle.follow_chunk.specs.Predicted.{forecast_of}
use Rattle.follow_chunk.specs.Items.{item_at, scalars_after}
use Rattle.verified_turns.specs.FollowRuns.{RunsAreFollowRuns}

pub runs-are-follow-runs : RunsAreFollowRuns
runs-are-follow-runs t loops o words [] m = refl
runs-are-follow-runs t loops o words (x ∷ xs) m =
    ap (λ (go : List ℤ → Option Outcome). and_then (follow_one (forecast_of t) (scalars_after t) (item_at t loops o x) m) go) (λ i w. runs-are-follow-runs t loops o words xs w i)
