-- Chunk ends: a launched chunk is committed, and then the state is that of the plain run of its turns, or rolled back.
use Rattle.std.specs.Prelude.{◌≡◌, ◌↔◌, ℕ, ℤ, pos, ◌+◌, ◌<◌, ◌≤ℤ◌, unsigned_abs, List, [], length, Result, Ok, Err}
use Rattle.std.specs.declared.alloc.AllocError.{AllocError}
use Rattle.nest_lang.specs.declared.tree.Loop.{Loop}
use Rattle.nest_lang.specs.declared.state.Outer.{Outer}
use Rattle.nest_lang.specs.declared.budget.Budget.{Budget}
use Rattle.nest_lang.specs.Lookups.{plain}
use Rattle.nest_lang.specs.Stores.{Store, store_of}
use Rattle.nest_lang.specs.Traces.{Trace, Done, cut, cut_of}
use Rattle.nest_lang.specs.Turns.{turns_trace}
use Rattle.domain.specs.declared.chunk.Chunk.{Chunk}
use Rattle.domain.specs.Tables.{Table}
use Rattle.domain.specs.Instances.{Instance, Predicted, padded}
use Rattle.domain.specs.Launches.{IsLaunched}
use Rattle.transform.specs.Schedules.{Schedule}
use Rattle.dependence.specs.Legality.{Legal}
use Rattle.orders.specs.Orders.{Ordered, Differ}
use Rattle.plain_lemmas.specs.Lists.{Has}
use Rattle.transform.specs.Schedules.{phase}
use Rattle.skeletons.specs.Cells.{Extent, Cell, AreCellsOf}
use Rattle.follow.specs.ChunkRuns.{ChunkRun}
use Rattle.follow.specs.Deviations.{Deviation, IsDeviation, FollowsPrediction}
use Rattle.follow_chunk.specs.Predicted.{forecast_of}
use Rattle.compare.specs.ChainLaw.{run_of_chunk}
use Rattle.chunk_run.specs.declared.run.ChunkEnd.{ChunkEnd}
use Rattle.chunk_run.specs.declared.run.ChunkEnd.TheVariants.{Committed, RolledBack}

-- a schedule is legal for the chunks of some length, which is at least the turns of this chunk and at most 1,024
pub record IsLegalFor (t : Table) (s : Schedule) (chunk : Chunk) : Type 0 where
  pub length : ℤ
  pub turns : chunk.turns ≤ℤ length
  pub most : length ≤ℤ pos 1024
  pub legal : Legal t s length

-- ---- the plain run of a chunk

-- a state between two turns of a run: the words, the scalars, and the steps left and used of its budget
pub record Between : Type 0 where
  pub words : List ℤ
  pub scalars : List ℤ
  pub steps : Budget

abbrev pub between : List ℤ → List ℤ → Budget → Between
between words scalars steps = record { words = words; scalars = scalars; steps = steps }

abbrev pub store_in : Between → Store
store_in a = store_of a.words a.scalars []

-- the plain trace of the turns of a chunk from a state, where each inner `while` has at most k turns
abbrev pub turns_from : List Loop → Outer → Chunk → Between → ℕ → Trace
turns_from loops o chunk a k = turns_trace plain k loops o (unsigned_abs chunk.turns) (store_in a)

-- the plain run of the turns of a chunk leads from one state to another: within the steps left all of them are done
abbrev pub LeadsTo : List Loop → Outer → Chunk → Between → Between → Type 0
LeadsTo loops o chunk a b =
    (k : ℕ) → a.steps.left < k
    → cut (turns_from loops o chunk a k) (store_in a) a.steps.left a.steps.used ≡ cut_of (store_in b) b.steps.left b.steps.used Done

-- the chunk run of a launched chunk from a state
abbrev pub run_from : Table → List Loop → Outer → Chunk → Between → ℕ → ChunkRun
run_from t loops o chunk a k = run_of_chunk t chunk (turns_from loops o chunk a k) (store_in a) a.steps.left

-- from this state the chunk follows its prediction
abbrev pub Follows : Table → List Loop → Outer → Chunk → Between → Type 0
Follows t loops o chunk a = (k : ℕ) → a.steps.left < k → FollowsPrediction (forecast_of t) (run_from t loops o chunk a k)

-- from this state the chunk has a deviation
abbrev pub Deviates : Table → List Loop → Outer → Chunk → Between → Type 0
Deviates t loops o chunk a = (k : ℕ) → a.steps.left < k → (d : Deviation) × IsDeviation (forecast_of t) (run_from t loops o chunk a k) d

-- ---- numbers

-- exactly the phase keys of the predicted instances, each once
pub record ArePhaseKeysOf (e : Extent) (keys : List (List ℤ)) : Type 0 where
  pub once : Ordered Differ keys
  pub has : (key : List ℤ) → Has keys key ↔ ((x : Instance) × Predicted e.table e.chunk x × (phase e.schedule (padded e.table x) ≡ key))

-- a chunk has so many predicted instances; they have so many phase keys; and they lie in so many cells, which are pairs of a
-- phase and a tile
pub record HasNumbers (e : Extent) (words : ℤ) (instances phases tiles : ℕ) : Type 0 where
  pub launched : IsLaunched e.table words e.chunk instances
  pub keys : List (List ℤ)
  pub are_keys : ArePhaseKeysOf e keys
  pub count_keys : length keys ≡ phases
  pub cells : List Cell
  pub are_cells : AreCellsOf e cells
  pub count_cells : length cells ≡ tiles

-- ---- ends

-- so many steps were moved from those left to those used
pub record AreTaken (steps : ℕ) (old new : Budget) : Type 0 where
  pub left : old.left ≡ steps + new.left
  pub used : new.used ≡ old.used + steps

-- a chunk that follows its prediction was run: the state is that of the plain run of its turns
pub record IsCommitted (e : Extent) (loops : List Loop) (o : Outer) (a b : Between) (instances phases tiles steps : ℕ) : Type 0 where
  pub follows : Follows e.table loops o e.chunk a
  pub plain : LeadsTo loops o e.chunk a b
  pub taken : AreTaken steps a.steps b.steps
  pub numbers : HasNumbers e (pos (length a.words)) instances phases tiles

-- a chunk that has a deviation was given up: the state is as before
pub record IsRolledBack (e : Extent) (loops : List Loop) (o : Outer) (a b : Between) : Type 0 where
  pub deviates : Deviates e.table loops o e.chunk a
  pub same : b ≡ a

-- how the run of a chunk ended; where memory was wanting the state is as before
abbrev pub HasEnded : Extent → List Loop → Outer → Between → Between → Result ChunkEnd AllocError → Type 0
HasEnded e loops o a b (Ok (Committed instances phases tiles steps)) = IsCommitted e loops o a b instances phases tiles steps
HasEnded e loops o a b (Ok RolledBack) = IsRolledBack e loops o a b
HasEnded e loops o a b (Err error) = b ≡ a
