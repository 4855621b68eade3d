-- What a comparison has found, once it was shown some things.
use Rattle.std.specs.Prelude.{◌≡◌, ◌⊎◌, ℕ, ℤ, List, Some, None, true}
use Rattle.std.specs.List.{AllByRecursion}
use Rattle.nest_lang.specs.declared.tree.Loop.{Loop}
use Rattle.nest_lang.specs.declared.state.Outer.{Outer}
use Rattle.nest_lang.specs.Stores.{Store}
use Rattle.nest_lang.specs.Lookups.{Expectation}
use Rattle.nest_lang.specs.Traces.{Observation, seen_in}
use Rattle.nest_lang.specs.Turns.{turns_trace}
use Rattle.block_exec.specs.Watches.{Chain}
use Rattle.domain.specs.declared.chunk.Chunk.{Chunk}
use Rattle.domain.specs.Tables.{Table}
use Rattle.domain.specs.Instances.{opening_at}
use Rattle.follow.specs.Forecasts.{all_agree}
use Rattle.follow.specs.Deviations.{IsFirst}
use Rattle.follow.specs.Hows.{how_seen}
use Rattle.follow_chunk.specs.Predicted.{instance_of, forecast_of}
use Rattle.follow_chunk.specs.Tasks.{TaskState, IsTask}
use Rattle.compare.specs.Kept.{kept}
use Rattle.compare.specs.Comparisons.{Comparison, fresh, IsOfTurns, MayCompare}
use Rattle.compare.specs.Compared.{due_after}
use Rattle.compare.specs.Chunks.{IsWatchable}

-- it is still about what is predicted of that chunk
pub record StillAbout (t : Table) (chunk : Chunk) (c : Comparison) : Type 0 where
  pub same_table : c.table ≡ t
  pub same_chunk : c.chunk ≡ chunk

-- all of it agrees, nothing was found, and the instance of the last observation is running or due
pub record FoundNothing (t : Table) (chunk : Chunk) (shown : List Observation) (c : Comparison) : Type 0 where
  pub agree : all_agree (forecast_of t) shown ≡ true
  pub none : c.first ≡ None
  pub at : c.at ≡ due_after t (opening_at t chunk.first) shown

-- the first observation that doesn't agree was found
pub record FoundFirst (t : Table) (shown : List Observation) (c : Comparison) : Type 0 where
  pub seen : Observation
  pub first : IsFirst (forecast_of t) shown seen
  pub found : c.first ≡ Some (record { at = instance_of t seen.at; how = how_seen (forecast_of t) (kept seen) })

-- a new comparison that was shown a list of things, as turns show them, found the first that doesn't agree, if there is one
abbrev pub ComparisonFindsFirst : Type 0
ComparisonFindsFirst = (t : Table) (chunk : Chunk) (shown : List Observation) (c : Comparison) → AllByRecursion IsOfTurns shown → Chain MayCompare (fresh t chunk) shown c
    → StillAbout t chunk c × (FoundNothing t chunk shown c ⊎ FoundFirst t shown c)

-- turns show no trip of an outermost loop
abbrev pub TurnsShowInnerTrips : Type 0
TurnsShowInnerTrips = (x : Expectation) (k : ℕ) (loops : List Loop) (o : Outer) (c : ℕ) (s : Store) (left : ℕ) → AllByRecursion IsOfTurns (seen_in (turns_trace x k loops o c s) left)

-- the chunk of a task can be watched
abbrev pub TasksAreWatchable : Type 0
TasksAreWatchable = (D : ℕ) (k : TaskState) (words : ℤ) → IsTask D k words → IsWatchable D k
