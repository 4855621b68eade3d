-- Follow runs: what instances leave as a machine is their follow run.
use Rattle.std.specs.Prelude.{◌≡◌, ℕ, ℤ, List}
use Rattle.nest_lang.specs.declared.tree.Loop.{Loop}
use Rattle.nest_lang.specs.declared.state.Outer.{Outer}
use Rattle.domain.specs.Tables.{Table}
use Rattle.domain.specs.Instances.{Instance}
use Rattle.orders.specs.Runs.{follow}
use Rattle.follow.specs.FollowRuns.{follow_run}
use Rattle.follow_chunk.specs.Predicted.{forecast_of}
use Rattle.follow_chunk.specs.Items.{items_at, scalars_after}
use Rattle.verified_turns.specs.Machines.{instances}

-- the run of some instances, one after another, is the follow run of what they run
abbrev pub RunsAreFollowRuns : Type 0
RunsAreFollowRuns =
    (t : Table) (loops : List Loop) (o : Outer) (words : ℕ) (xs : List Instance) (m : List ℤ)
    → follow (instances t loops o words) xs m ≡ follow_run (forecast_of t) (scalars_after t) (items_at t loops o xs) m
