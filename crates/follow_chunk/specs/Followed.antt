-- Followed: instances of a table against what is expected of them.
use Rattle.std.specs.Prelude.{◌≡◌, ◌≢◌, ◌^◌, ℕ, List, ℤ, pos, [], ◌∷◌, ◌++◌, length, slice_index_or, FitsSigned, Some, None, Result, Ok, Err}
use Rattle.std.specs.Int.{w64}
use Rattle.nest_lang.specs.Stores.{Store, store_of}
use Rattle.domain.specs.Tables.{Table}
use Rattle.domain.specs.Instances.{Instance}
use Rattle.domain.specs.Steps.{next}
use Rattle.domain.specs.Footprints.{Writes}
use Rattle.follow.specs.declared.how.How.{How}
use Rattle.follow.specs.declared.how.How.TheVariants.{Limit}
use Rattle.follow.specs.Plans.{item_trace}
use Rattle.follow.specs.FollowRuns.{follow_one, follow_run}
use Rattle.follow.specs.Followed.{IsFollowed}
use Rattle.follow_chunk.specs.declared.task.Followed.{Followed}
use Rattle.follow_chunk.specs.declared.task.Followed.TheVariants.{Same, Differs}
use Rattle.follow_chunk.specs.Predicted.{occurrence_of, scalars_at, forecast_of}
use Rattle.follow_chunk.specs.Tasks.{TaskState}
use Rattle.follow_chunk.specs.Items.{item_at, items_at, scalars_after}

-- the store that an instance begins with: these words, and the scalars that are expected of it
abbrev pub store_at : Table → Instance → List ℤ → Store
store_at t x words = store_of words (scalars_at t x) []

-- the run of an instance from its expected scalars over these words, against what is expected of it and of the scalars
-- that its successor begins with: its steps where it has no deviation, and else its deviation. No instance has 2^32 steps.
abbrev pub IsRun : TaskState → Instance → List ℤ → Result ℕ How → List ℤ → Type 0
IsRun k x words result after =
    let t = k.pred in
    IsFollowed (forecast_of t) (occurrence_of t (next t x)) (item_trace (forecast_of t) (item_at t k.loops k.outer x) (store_at t x words)) (store_at t x words) (2 ^ 32) result after

-- an instance follows its prediction, in so many steps from these words to those
pub record Follows (k : TaskState) (x : Instance) (steps : ℕ) (words after : List ℤ) : Type 0 where
  pub run : IsRun k x words (Ok steps) after
  pub one : follow_one (forecast_of k.pred) (scalars_after k.pred) (item_at k.pred k.loops k.outer x) words ≡ Some (record { memory = after; steps = steps })

-- an instance deviates from its prediction so, run over these words; it is never cut short
pub record Deviates (k : TaskState) (x : Instance) (how : How) (words : List ℤ) : Type 0 where
  pub run : IsRun k x words (Err how) words
  pub whole : how ≢ Limit
  pub none : follow_one (forecast_of k.pred) (scalars_after k.pred) (item_at k.pred k.loops k.outer x) words ≡ None

-- an instance was followed over these words, which it leaves as those where it doesn't deviate
abbrev pub IsInstanceFollowed : {D : ℕ} → TaskState → Instance → List ℤ → Followed D → List ℤ → Type 0
IsInstanceFollowed k x words (Same steps) after = Follows k x steps words after
IsInstanceFollowed k x words (Differs d) after = (d.at ≡ x) × Deviates k x d.how words

-- whether it deviates or not, it leaves as many words, and each that is none of its writes
pub record ChangesWrites (t : Table) (x : Instance) (words after : List ℤ) : Type 0 where
  pub long : length after ≡ length words
  pub others : (address : ℕ) → (Writes t x (pos address) → ⊥) → slice_index_or after address (pos 0) ≡ slice_index_or words address (pos 0)

-- each scalar that the successor of an instance begins with is an i64
abbrev pub ClosesSmall : Table → Instance → Type 0
ClosesSmall t x = (number : ℕ) → FitsSigned w64 (slice_index_or (scalars_at t (next t x)) number (pos 0))

-- and so it is where the instance doesn't deviate
abbrev pub IsClosedSmall : {D : ℕ} → Table → Instance → Followed D → Type 0
IsClosedSmall t x (Same steps) = ClosesSmall t x
IsClosedSmall t x (Differs d) = Unit {0}

-- x is the first instance of a list that deviates, run from where those before it lead
pub record FirstDeviates (k : TaskState) (xs : List Instance) (x : Instance) (how : How) (words : List ℤ) : Type 0 where
  pub before : List Instance
  pub behind : List Instance
  pub are : xs ≡ before ++ x ∷ behind
  pub memory : List ℤ
  pub steps : ℕ
  pub follows : follow_run (forecast_of k.pred) (scalars_after k.pred) (items_at k.pred k.loops k.outer before) words ≡ Some (record { memory = memory; steps = steps })
  pub deviates : Deviates k x how memory

-- a list was followed: its follow run is these words and steps; or it is None, and this is the first that deviates
abbrev pub IsListFollowed : {D : ℕ} → TaskState → List Instance → List ℤ → Followed D → List ℤ → Type 0
IsListFollowed k xs words (Same steps) after = follow_run (forecast_of k.pred) (scalars_after k.pred) (items_at k.pred k.loops k.outer xs) words ≡ Some (record { memory = after; steps = steps })
IsListFollowed k xs words (Differs d) after =
    (follow_run (forecast_of k.pred) (scalars_after k.pred) (items_at k.pred k.loops k.outer xs) words ≡ None) × FirstDeviates k xs d.at d.how words
