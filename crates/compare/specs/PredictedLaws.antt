-- Predicted laws: the planned instances of a chunk are the predicted ones.
use Rattle.std.specs.Prelude.{◌≡◌, ◌+ℤ◌, ℕ, ℤ, unsigned_abs, List, ◌∷◌, map}
use Rattle.nest_lang.specs.declared.tree.Loop.{Loop}
use Rattle.nest_lang.specs.declared.state.Outer.{Outer}
use Rattle.nest_lang.specs.Turns.{turns_later}
use Rattle.domain.specs.declared.chunk.Chunk.{Chunk}
use Rattle.domain.specs.Tables.{Table, IsTable}
use Rattle.domain.specs.Instances.{Instance, Predicted, IsOriginal, IsSuccessor, opening_at}
use Rattle.follow.specs.Plans.{planned, Item}
use Rattle.follow.specs.Successors.{successor_scalars}
use Rattle.follow_chunk.specs.Predicted.{occurrence_of, instance_of, scalars_at, forecast_of}
use Rattle.follow_chunk.specs.Items.{item_at, items_at}
use Rattle.follow_chunk.specs.Tasks.{TaskState, IsTask}
use Rattle.compare.specs.Chunks.{IsNextChunk}

-- the planned instances of a chunk: those that the loops of the nest have by the expected trips
abbrev pub planned_in : Table → List Loop → Outer → Chunk → List Item
planned_in t loops o chunk = planned (forecast_of t) loops o (unsigned_abs chunk.turns)

-- something holds of each chunk of a nest
abbrev pub OfChunks : (Table → List Loop → Outer → Chunk → Type 0) → Type 0
OfChunks P = (D scalars : ℕ) (loops : List Loop) (t : Table) (o : Outer) (chunk : Chunk) → IsTable D t → IsNextChunk scalars loops t o chunk → P t loops o chunk

-- the instances that are planned are *Predicted*: all the predicted instances of the chunk, in original order
abbrev pub PlannedAreOriginal : Type 0
PlannedAreOriginal = OfChunks (λ t loops o chunk. IsOriginal t chunk (map (λ (i : Item). instance_of t i.at) (planned_in t loops o chunk)))

-- so what is planned is *Predicted*, each instance with what it runs
abbrev pub PlannedArePredicted : Type 0
PlannedArePredicted = OfChunks (λ t loops o chunk. (xs : List Instance) → IsOriginal t chunk xs → planned_in t loops o chunk ≡ items_at t loops o xs)

-- a predicted instance and its occurrence are each other's
abbrev pub PredictedOccur : Type 0
PredictedOccur = OfChunks (λ t loops o chunk. (x : Instance) → Predicted t chunk x → (instance_of t (occurrence_of t x) ≡ x) × ((item_at t loops o x).at ≡ occurrence_of t x))

-- the scalars that are expected after an instance of the plan are those that its successor begins with
abbrev pub SuccessorsArePlanned : Type 0
SuccessorsArePlanned =
    OfChunks (λ t loops o chunk. (x y : Instance) → Predicted t chunk x → IsSuccessor t chunk x y → successor_scalars (forecast_of t) loops o (unsigned_abs chunk.turns) (item_at t loops o x) ≡ scalars_at t y)

-- the plan of the turn after the chunk begins with the first block there, with inner counters 0
abbrev pub NextTurnOpens : Type 0
NextTurnOpens =
    OfChunks (λ t loops o chunk. (i : Item) (is : List Item) → planned (forecast_of t) loops (turns_later o (unsigned_abs chunk.turns)) 1 ≡ i ∷ is
    → (instance_of t i.at ≡ opening_at t (chunk.first +ℤ chunk.turns)) × (i.at ≡ occurrence_of t (opening_at t (chunk.first +ℤ chunk.turns))))

-- the chunk of a task is one
abbrev pub TasksAreChunks : Type 0
TasksAreChunks = (D : ℕ) (k : TaskState) (words : ℤ) → IsTask D k words → IsNextChunk k.scalars k.loops k.pred k.outer k.chunk
