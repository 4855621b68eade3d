-- What holds of predicted instances.
use Rattle.std.specs.Prelude.{◌≡◌, ◌⊎◌, ◌≤◌, ◌-◌, ◌^◌, ℕ, ℤ, pos, ◌≤ℤ◌, ◌<ℤ◌, ◌+ℤ◌, List, length}
use Rattle.nest_lang.specs.declared.tree.Loop.{Loop}
use Rattle.nest_lang.specs.declared.tree.Part.{Part}
use Rattle.nest_lang.specs.declared.tree.Part.TheVariants.{Head}
use Rattle.nest_lang.specs.Blocks.{block_ref, rank_of}
use Rattle.nest_lang.specs.Rules.{NestKeeps}
use Rattle.domain.specs.declared.chunk.Chunk.{Chunk}
use Rattle.domain.specs.Tables.{Table, IsTable, Reaches, level_at, stride_size, trip}
use Rattle.domain.specs.Tables.{rank_of as table_rank}
use Rattle.domain.specs.Shapes.{IsTableOf}
use Rattle.domain.specs.Instances.{Instance, block_of, counter, place, IsInstance, Predicted, Precedes, IsOriginal}
use Rattle.domain.specs.Footprints.{Writes}
use Rattle.domain.specs.Launches.{IsLaunched}

-- original order is a strict total order of the instances of present blocks
pub record IsStrict (t : Table) : Type 0 where
  pub irreflexive : (x : Instance) → Precedes t x x → ⊥
  pub transitive : (x y z : Instance) → Precedes t x y → Precedes t y z → Precedes t x z
  pub total : (x y : Instance) → IsInstance t x → IsInstance t y → Precedes t x y ⊎ ((x ≡ y) ⊎ Precedes t y x)

abbrev pub OrderIsStrict : Type 0
OrderIsStrict = (D : ℕ) (t : Table) → IsTable D t → IsStrict t

-- there is one list of the predicted instances in original order
abbrev pub OneList : Type 0
OneList = (D : ℕ) (t : Table) (chunk : Chunk) (xs ys : List Instance) → IsTable D t → IsOriginal t chunk xs → IsOriginal t chunk ys → xs ≡ ys

-- where a chunk is launched, no predicted trip at the first predicted head of an inner loop is negative
abbrev pub LaunchedTrips : Type 0
LaunchedTrips =
    (D : ℕ) (t : Table) (words : ℤ) (chunk : Chunk) (instances : ℕ) → IsTable D t → IsLaunched t words chunk instances
    → (x : Instance) → Predicted t chunk x → (block_of t x).part ≡ Head → 2 ≤ (block_of t x).level → counter x.at ((block_of t x).level - 1) ≡ pos 0
    → pos 0 ≤ℤ trip t ((block_of t x).level - 1) x.at

-- where a chunk of at least one turn, from a turn that isn't negative, is launched, the counters of its instances are near
-- its first turn
abbrev pub LaunchedCounters : Type 0
LaunchedCounters =
    (D : ℕ) (t : Table) (words : ℤ) (chunk : Chunk) (instances : ℕ) → IsTable D t → pos 0 ≤ℤ chunk.first → pos 1 ≤ℤ chunk.turns → IsLaunched t words chunk instances
    → (x : Instance) → Predicted t chunk x → (k : ℕ) → (pos 0 ≤ℤ counter x.at k) × (counter x.at k <ℤ (chunk.first +ℤ pos 65536))

-- and so are the numbers of their padded points
abbrev pub LaunchedPlaces : Type 0
LaunchedPlaces =
    (D : ℕ) (t : Table) (words : ℤ) (chunk : Chunk) (instances : ℕ) → IsTable D t → pos 0 ≤ℤ chunk.first → pos 1 ≤ℤ chunk.turns → IsLaunched t words chunk instances
    → (x : Instance) → Predicted t chunk x → (k : ℕ) → (pos 0 ≤ℤ place t (block_of t x) x.at k) × (place t (block_of t x) x.at k ≤ℤ (chunk.first +ℤ pos 65536))

-- where a chunk is launched, each address that its instances write is a word
abbrev pub LaunchedWords : Type 0
LaunchedWords =
    (t : Table) (words : ℤ) (chunk : Chunk) (instances : ℕ) → IsLaunched t words chunk instances
    → (x : Instance) → Predicted t chunk x → (address : ℤ) → Writes t x address → (pos 0 ≤ℤ address) × (address <ℤ words)

-- the table of a nest that keeps the rules, in a file of at most 16 scalars, is a table, where the strides are of 64 bits
-- and the loops' names stay within what can be computed
abbrev pub TableOfNest : Type 0
TableOfNest =
    (scalars : ℕ) (loops : List Loop) (t : Table) → scalars ≤ 16 → NestKeeps scalars loops → IsTableOf scalars loops t
    → ((k : ℕ) → stride_size (level_at t k).kind ≤ 2 ^ 63) → ((k : ℕ) → Reaches (stride_size (level_at t k).kind) (level_at t k).trip) → IsTable (length loops) t

-- in the table of a nest, a block has the rank that it has in the nest
abbrev pub RanksOfNest : Type 0
RanksOfNest = (scalars : ℕ) (loops : List Loop) (t : Table) (part : Part) (level : ℕ) → IsTableOf scalars loops t → table_rank t part level ≡ rank_of loops (block_ref part level)
