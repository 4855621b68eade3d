-- The schedule law: a chunk may be run in the order of a legal schedule.
use Rattle.std.specs.Prelude.{◌≡◌, ℕ, ℤ, pos, ◌≤ℤ◌, List, length, Option}
use Rattle.nest_lang.specs.declared.tree.Loop.{Loop}
use Rattle.nest_lang.specs.declared.state.Outer.{Outer}
use Rattle.domain.specs.declared.chunk.Chunk.{Chunk}
use Rattle.domain.specs.Tables.{Table}
use Rattle.domain.specs.Instances.{Instance, IsOriginal}
use Rattle.transform.specs.Schedules.{Schedule, IsSchedule}
use Rattle.dependence.specs.Legality.{Legal}
use Rattle.dependence.specs.Laws.{IsScheduled}
use Rattle.orders.specs.Runs.{Outcome}
use Rattle.follow.specs.FollowRuns.{follow_run}
use Rattle.follow_chunk.specs.Predicted.{forecast_of}
use Rattle.follow_chunk.specs.Items.{items_at, scalars_after}
use Rattle.follow_chunk.specs.Tasks.{TaskState, IsTask}

-- the follow run of instances of a nest by what a table predicts of them, over these words: each is expected to leave the
-- scalars that its successor begins with
abbrev pub followed : Table → List Loop → Outer → List Instance → List ℤ → Option Outcome
followed t loops o xs words = follow_run (forecast_of t) (scalars_after t) (items_at t loops o xs) words

-- where a schedule is legal for chunks of at most L turns, the follow run of the scheduled list of a launched chunk of at
-- most L turns is that of *Predicted*: the same memory and the same steps, or None for both
abbrev pub ScheduledKeeps : Type 0
ScheduledKeeps =
    (D : ℕ) (k : TaskState) (L : ℤ) (s : Schedule) (xs ys : List Instance) (words : List ℤ)
    → IsTask D k (pos (length words)) → IsSchedule D s → Legal k.pred s L → k.chunk.turns ≤ℤ L
    → IsOriginal k.pred k.chunk xs → IsScheduled k.pred s xs ys → followed k.pred k.loops k.outer ys words ≡ followed k.pred k.loops k.outer xs words
