-- Parts: some instances of a chunk, followed one after another within the steps left.
use Rattle.std.specs.Prelude.{◌≡◌, ℕ, ℤ, pos, ◌+◌, ◌<◌, List, [], length, slice_index_or, FitsSigned, Option, Some, None}
use Rattle.std.specs.Int.{w64}
use Rattle.nest_lang.specs.declared.tree.Loop.{Loop}
use Rattle.nest_lang.specs.declared.state.Outer.{Outer}
use Rattle.domain.specs.declared.chunk.Chunk.{Chunk}
use Rattle.domain.specs.Tables.{Table}
use Rattle.domain.specs.Instances.{Instance, Predicted, IsOriginal}
use Rattle.domain.specs.Footprints.{Writes}
use Rattle.orders.specs.Runs.{Outcome}
use Rattle.plain_lemmas.specs.Lists.{Has}
use Rattle.orders.specs.Tiles.{flat}
use Rattle.core_steps.specs.Plans.{no_plan}
use Rattle.skeletons.specs.Cells.{Cell, Extent, AreListsOf}
use Rattle.tiles.specs.Plans.{Phase}
use Rattle.follow_chunk.specs.Predicted.{scalars_at}
use Rattle.follow_chunk.specs.Followed.{ClosesSmall}
use Rattle.nest_lang.specs.Stores.{store_of}
use Rattle.compare.specs.ChainLaw.{behind, Chained}
use Rattle.chunk_run.specs.ScheduleLaw.{followed}

-- the follow run of these instances leads from these words to those, and of so many steps leaves so many; each scalar that
-- the successor of one of them begins with is an i64
pub record FollowsWithin (t : Table) (loops : List Loop) (o : Outer) (xs : List Instance) (words : List ℤ) (left : ℕ) (after : List ℤ) (rest : ℕ) : Type 0 where
  pub steps : ℕ
  pub run : followed t loops o xs words ≡ Some (record { memory = after; steps = steps })
  pub suffice : left ≡ steps + rest
  pub closes : (x : Instance) → Has xs x → ClosesSmall t x

-- there is no follow run of these instances, or it takes more steps than are left
abbrev pub FailsWithin : Table → List Loop → Outer → List Instance → List ℤ → ℕ → Type 0
FailsWithin t loops o xs words left = (r : Outcome) → followed t loops o xs words ≡ Some r → left < r.steps

-- these instances were followed as far as the steps went: so many are left, or it fails
abbrev pub IsPart : Table → List Loop → Outer → List Instance → List ℤ → ℕ → Option ℕ → List ℤ → Type 0
IsPart t loops o xs words left (Some rest) after = FollowsWithin t loops o xs words left after rest
IsPart t loops o xs words left None after = FailsWithin t loops o xs words left

-- and so the instances of some cells, each cell by place and then by rank
abbrev pub IsPartOf : Extent → List Loop → Outer → List Cell → List ℤ → ℕ → Option ℕ → List ℤ → Type 0
IsPartOf e loops o cells words left result after =
    (lists : List (List Instance)) → AreListsOf e cells lists → IsPart e.table loops o (flat lists) words left result after

-- these instances were run: they were followed in so many steps, and each scalar that the successor of one of them begins
-- with is an i64; or there is no follow run of them
abbrev pub Takes : Table → List Loop → Outer → List Instance → List ℤ → Option ℕ → List ℤ → Type 0
Takes t loops o xs words (Some steps) after = (followed t loops o xs words ≡ Some (record { memory = after; steps = steps })) × ((x : Instance) → Has xs x → ClosesSmall t x)
Takes t loops o xs words None after = followed t loops o xs words ≡ None

-- and so the instances of some cells, each cell by place and then by rank
abbrev pub HasSteps : Extent → List Loop → Outer → List Cell → List ℤ → Option ℕ → List ℤ → Type 0
HasSteps e loops o cells words result after = (lists : List (List Instance)) → AreListsOf e cells lists → Takes e.table loops o (flat lists) words result after

-- the phase of this number
abbrev pub phase_at : List Phase → ℕ → Phase
phase_at phases number = slice_index_or phases number (record { cells = []; plan = no_plan })

-- as many words, and each that no predicted instance of the chunk writes stays
pub record ChangesChunk (t : Table) (chunk : Chunk) (words after : List ℤ) : Type 0 where
  pub long : length after ≡ length words
  pub others : (address : ℕ) → ((x : Instance) → Predicted t chunk x → Writes t x (pos address) → ⊥) → slice_index_or after address (pos 0) ≡ slice_index_or words address (pos 0)

-- each scalar that the instance behind the chunk begins with is an i64
abbrev pub ClosingFits : Table → Chunk → Type 0
ClosingFits t chunk = (number : ℕ) → FitsSigned w64 (slice_index_or (scalars_at t (behind t chunk)) number (pos 0))

-- from these words and scalars a chunk follows its prediction within the steps left: it leads to these words and leaves so
-- many steps, and the scalars that it is expected to leave are i64s
pub record Succeeds (t : Table) (loops : List Loop) (o : Outer) (chunk : Chunk) (words scalars : List ℤ) (left : ℕ) (after : List ℤ) (rest : ℕ) : Type 0 where
  pub steps : ℕ
  pub suffice : left ≡ steps + rest
  pub chained : (xs : List Instance) → IsOriginal t chunk xs → Chained t loops o chunk xs (store_of words scalars []) left (record { memory = after; steps = steps })
  pub closes : ClosingFits t chunk

-- it follows its prediction to no end
abbrev pub Fails : Table → List Loop → Outer → Chunk → List ℤ → List ℤ → ℕ → Type 0
Fails t loops o chunk words scalars left = (xs : List Instance) (r : Outcome) → IsOriginal t chunk xs → Chained t loops o chunk xs (store_of words scalars []) left r → ⊥

-- a chunk was attempted
abbrev pub IsAttempt : Table → List Loop → Outer → Chunk → List ℤ → List ℤ → ℕ → Option ℕ → List ℤ → Type 0
IsAttempt t loops o chunk words scalars left (Some rest) after = Succeeds t loops o chunk words scalars left after rest
IsAttempt t loops o chunk words scalars left None after = Fails t loops o chunk words scalars left
