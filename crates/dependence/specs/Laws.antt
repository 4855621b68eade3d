-- The laws of dependence: which systems a conflicting pair meets, and what a legal schedule keeps.
use Rattle.std.specs.Prelude.{◌≡◌, ◌↔◌, ◌⊎◌, ◌≤◌, ◌<◌, ℕ, ℤ, pos, ◌≤ℤ◌, List, [], ◌∷◌, ◌++◌, length, take, Some, None, slice_get, Contains}
use Rattle.std.specs.List.{All, Any}
use Rattle.std.specs.Ordering.{int_cmp}
use Rattle.std.specs.Cmp.Lexicographic.{slice_cmp}
use Rattle.std.specs.declared.cmp.Ordering.TheVariants.{Less}
use Rattle.affine.specs.Rows.{Meets}
use Rattle.orders.specs.Orders.{Before, IsOrdering}
use Rattle.plain_lemmas.specs.Lists.{Has}
use Rattle.domain.specs.declared.chunk.Chunk.{Chunk}
use Rattle.nest_lang.specs.declared.tree.AccessRef.{AccessRef}
use Rattle.nest_lang.specs.declared.tree.BlockRef.{BlockRef}
use Rattle.nest_lang.specs.declared.tree.Loop.{Loop}
use Rattle.nest_lang.specs.Accesses.{accesses_of}
use Rattle.nest_lang.specs.Blocks.{present_blocks}
use Rattle.domain.specs.Tables.{Table, block_at, level_at, turning, counters, IsTable}
use Rattle.domain.specs.Shapes.{IsTableOf}
use Rattle.domain.specs.Instances.{Instance, block_of, Predicted, Precedes, IsOriginal, padded}
use Rattle.domain.specs.Footprints.{Conflict}
use Rattle.domain.specs.Launches.{IsLaunched}
use Rattle.transform.specs.Schedules.{Schedule, IsSchedule, phase, place, tile}
use Rattle.dependence.specs.Comparisons.{Joint, point}
use Rattle.dependence.specs.Systems.{System, IsRef, systems}
use Rattle.dependence.specs.Legality.{Legal, Unmet}

-- the chunk's first turn, the counters of x, the counters of y
abbrev pub beside : Table → Chunk → Instance → Instance → Joint
beside t chunk x y = record { turn = chunk.first; x = take (counters t (block_of t x)) x.at; y = take (counters t (block_of t y)) y.at }

-- a chunk of at most L turns that was launched
pub record IsShortLaunch (t : Table) (L words : ℤ) (chunk : Chunk) : Type 0 where
  pub first : pos 0 ≤ℤ chunk.first
  pub turns : chunk.turns ≤ℤ L
  pub instances : ℕ
  pub launched : IsLaunched t words chunk instances

-- x comes before y in such a chunk, and they conflict
pub record IsPair (t : Table) (L words : ℤ) (chunk : Chunk) (x y : Instance) : Type 0 where
  pub launch : IsShortLaunch t L words chunk
  pub first : Predicted t chunk x
  pub second : Predicted t chunk y
  pub conflict : Conflict t words x y
  pub order : Precedes t x y

-- each such pair meets the rows of a system of their blocks
abbrev pub PairHasSystem : Type 0
PairHasSystem =
    (D : ℕ) (t : Table) (L words : ℤ) (chunk : Chunk) (x y : Instance) → IsTable D t → IsPair t L words chunk x y
    → Any (λ sys. (sys.first.block ≡ x.block) × (sys.second.block ≡ y.block) × All (Meets (point (beside t chunk x y))) sys.rows) (systems t L)

-- where a schedule is legal, no whole-number point meets a system with a violated row
abbrev pub LegalIsUnmet : Type 0
LegalIsUnmet = (t : Table) (s : Schedule) (L : ℤ) → Legal t s L → Unmet t s L

-- ---- the order of a schedule

-- an instance's key: the phase key, then the tile, then the place, then the rank
abbrev pub schedule_key : Schedule → List ℤ → ℤ → List ℤ
schedule_key s p rank = phase s p ++ (tile s p ++ (place s p ++ rank ∷ []))

abbrev pub key_at : Table → Schedule → Instance → List ℤ
key_at t s x = schedule_key s (padded t x) (pos x.block)

-- x comes before y in the order of the schedule
abbrev pub ComesFirst : Table → Schedule → Instance → Instance → Type 0
ComesFirst t s x y = slice_cmp int_cmp (key_at t s x) (key_at t s y) ≡ Less

-- where no point meets a system with a violated row, a conflicting pair keeps its order
abbrev pub OrderKept : Type 0
OrderKept =
    (D : ℕ) (t : Table) (L words : ℤ) (s : Schedule) (chunk : Chunk) (x y : Instance) → IsTable D t → IsSchedule D s → Unmet t s L → IsPair t L words chunk x y
    → ComesFirst t s x y

-- two instances are of one phase, and in different tiles
pub record InOtherTiles (t : Table) (s : Schedule) (x y : Instance) : Type 0 where
  pub phase : phase s (padded t x) ≡ phase s (padded t y)
  pub tile : tile s (padded t x) ≡ tile s (padded t y) → ⊥

-- and two instances in different tiles of one phase never conflict
abbrev pub TilesApart : Type 0
TilesApart =
    (D : ℕ) (t : Table) (L words : ℤ) (s : Schedule) (chunk : Chunk) (x y : Instance) → IsTable D t → IsSchedule D s → Unmet t s L
    → IsShortLaunch t L words chunk → Predicted t chunk x → Predicted t chunk y → InOtherTiles t s x y → Conflict t words x y → ⊥

-- ---- the conflict law, on lists

-- the scheduled list: the same instances, by phase key, tile, place and rank
abbrev pub IsScheduled : Table → Schedule → List Instance → List Instance → Type 0
IsScheduled t s xs ys = IsOrdering (ComesFirst t s) xs ys

-- each conflicting pair stands in the same order in both lists, and none lies in different tiles of one phase
pub record KeepsConflicts (t : Table) (words : ℤ) (s : Schedule) (xs ys : List Instance) : Type 0 where
  pub order : (x y : Instance) → Conflict t words x y → Before xs x y ↔ Before ys x y
  pub tiles : (x y : Instance) → Has xs x → Has xs y → InOtherTiles t s x y → Conflict t words x y → ⊥

-- the scheduled list of a launched chunk keeps all conflicts, where the schedule is legal
abbrev pub ConflictLaw : Type 0
ConflictLaw =
    (D : ℕ) (t : Table) (L words : ℤ) (s : Schedule) (chunk : Chunk) (xs ys : List Instance) → IsTable D t → IsSchedule D s → Legal t s L
    → IsShortLaunch t L words chunk → IsOriginal t chunk xs → IsScheduled t s xs ys → KeepsConflicts t words s xs ys

-- ---- what systems name

-- an access of a nest, by the rank of its block, which is present, and its number there, from 1
pub record IsAccessOf (loops : List Loop) (r : AccessRef) : Type 0 where
  pub present : r.block < length (present_blocks loops)
  pub from : 1 ≤ r.access
  pub to : (block : BlockRef) → slice_get (present_blocks loops) r.block ≡ Some block → r.access ≤ length (accesses_of loops block)

-- what refers to an access of the table of a nest refers to an access of the nest
abbrev pub AccessesOfNest : Type 0
AccessesOfNest = (scalars : ℕ) (loops : List Loop) (t : Table) (r : AccessRef) → IsTableOf scalars loops t → IsRef t r → IsAccessOf loops r

-- the trip of a loop has no form where no head of it was seen, and then no block inside it was: no whole-number point
-- meets a system of an access of such a block, whose rows ask for a counter from 0 to -1
abbrev pub UnseenLoopUnmet : Type 0
UnseenLoopUnmet =
    (D : ℕ) (t : Table) (L : ℤ) (sys : System) (k : ℕ) → IsTable D t → Contains (systems t L) sys → 1 ≤ k → (level_at t k).trip ≡ None
    → (k < turning (block_at t sys.first.block)) ⊎ (k < turning (block_at t sys.second.block)) → (point : List ℤ) → All (Meets point) sys.rows → ⊥
