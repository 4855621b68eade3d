-- Compared: the deviation of a chunk's plain run, with the instance and both values.
use Rattle.std.specs.Prelude.{◌≡◌, ℕ, ℤ, unsigned_abs, List, [], ◌∷◌, Option, Some, None}
use Rattle.std.specs.List.{All}
use Rattle.nest_lang.specs.declared.tree.Loop.{Loop}
use Rattle.nest_lang.specs.declared.state.Outer.{Outer}
use Rattle.nest_lang.specs.Lookups.{Expectation}
use Rattle.nest_lang.specs.Traces.{Observation, Finish}
use Rattle.nest_lang.specs.Turns.{turns_trace}
use Rattle.block_exec.specs.Moments.{Moment, Ran}
use Rattle.domain.specs.declared.chunk.Chunk.{Chunk}
use Rattle.domain.specs.Tables.{Table}
use Rattle.domain.specs.Instances.{Instance, opening_at}
use Rattle.follow.specs.ChunkRuns.{ChunkRun}
use Rattle.follow.specs.Deviations.{Deviation, Differs, Halts, Limit, IsDeviation, FollowsPrediction}
use Rattle.follow.specs.Hows.{how_of}
use Rattle.follow_chunk.specs.declared.task.Deviation as code
use Rattle.follow_chunk.specs.Predicted.{instance_of, forecast_of}
use Rattle.profile.specs.Reach.{HasValue}
use Rattle.compare.specs.Kept.{kept_deviation}
use Rattle.compare.specs.ChainLaw.{run_of_chunk}
use Rattle.compare.specs.Comparisons.{Comparison, MayCompare, fresh}

-- the instance that is running or due after what was shown: that of the last observation, and where there is none this
abbrev pub due_after : Table → Instance → List Observation → Instance
due_after t x [] = x
due_after t x (o ∷ os) = due_after t (instance_of t o.at) os

-- the instance of a deviation: that of the observation; of a trap and of the limit the one that is running or due
abbrev pub instance_in : Table → Chunk → List Observation → Deviation → Instance
instance_in t chunk observations (Differs seen) = instance_of t seen.at
instance_in t chunk observations (Halts halt) = due_after t (opening_at t chunk.first) observations
instance_in t chunk observations Limit = due_after t (opening_at t chunk.first) observations

-- this is the deviation of a chunk's run, with its instance, and with its kind and both values. It is None exactly
-- where the chunk follows its prediction.
abbrev pub IsDeviationOf : {D : ℕ} → Table → Chunk → ChunkRun → Option (code.Deviation D) → Type 0
IsDeviationOf t chunk run None = FollowsPrediction (forecast_of t) run
IsDeviationOf t chunk run (Some d) =
    (e : Deviation) × IsDeviation (forecast_of t) run e × (d.at ≡ instance_in t chunk run.observations e) × (d.how ≡ how_of (forecast_of t) e)

-- the same, but for the seen value, which is as it is kept
abbrev pub IsKeptDeviationOf : {D : ℕ} → Table → Chunk → ChunkRun → Option (code.Deviation D) → Type 0
IsKeptDeviationOf t chunk run None = FollowsPrediction (forecast_of t) run
IsKeptDeviationOf t chunk run (Some d) =
    (e : Deviation) × IsDeviation (forecast_of t) run e × (d.at ≡ instance_in t chunk run.observations e) × (d.how ≡ how_of (forecast_of t) (kept_deviation e))

-- the turns of a chunk ran from one moment to another, watched by a comparison that was new, up to this comparison and to
-- these scalars
pub record Watched (t : Table) (chunk : Chunk) (x : Expectation) (k : ℕ) (loops : List Loop) (o : Outer) (a b : Moment Comparison) (finish : Finish) (c : Comparison) (scalars : List ℤ) : Type 0 where
  pub begins : a.watch ≡ fresh t chunk
  pub ends : b.watch ≡ c
  pub closes : b.store.scalars ≡ scalars
  pub ran : Ran MayCompare (turns_trace x k loops o (unsigned_abs chunk.turns)) a b finish

-- whatever turns of a chunk it watched, and however they finished, this is the deviation of their run from the state and
-- the steps left at their start, where each value that they showed is one of its kind, as in every run of i64s
abbrev pub IsFirstDeviation : {D : ℕ} → Comparison → Finish → List ℤ → Option (code.Deviation D) → Type 0
IsFirstDeviation c finish scalars result =
    (t : Table) (chunk : Chunk) (x : Expectation) (k : ℕ) (loops : List Loop) (o : Outer) (a b : Moment Comparison) → Watched t chunk x k loops o a b finish c scalars
    → All HasValue (run_of_chunk t chunk (turns_trace x k loops o (unsigned_abs chunk.turns) a.store) a.store a.left).observations
    → IsDeviationOf t chunk (run_of_chunk t chunk (turns_trace x k loops o (unsigned_abs chunk.turns) a.store) a.store a.left) result

-- and whatever they showed, it is so as it is kept
abbrev pub IsFirstKept : {D : ℕ} → Comparison → Finish → List ℤ → Option (code.Deviation D) → Type 0
IsFirstKept c finish scalars result =
    (t : Table) (chunk : Chunk) (x : Expectation) (k : ℕ) (loops : List Loop) (o : Outer) (a b : Moment Comparison) → Watched t chunk x k loops o a b finish c scalars
    → IsKeptDeviationOf t chunk (run_of_chunk t chunk (turns_trace x k loops o (unsigned_abs chunk.turns) a.store) a.store a.left) result
