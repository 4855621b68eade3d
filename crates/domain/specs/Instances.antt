-- Instances: which are predicted for a chunk, and original order.
use Rattle.std.specs.Prelude.{◌≡◌, ◌⊎◌, ℕ, ◌<◌, ◌≤◌, ℤ, pos, ◌+ℤ◌, ◌≤ℤ◌, ◌<ℤ◌, nat_lt, nat_eq, int_lt, ◌&&◌, if◌then◌else◌, List, [], ◌∷◌, ◌++◌, map, length, slice_index_or, slice_set, replicate, Contains, ◌↔◌}
use Rattle.std.specs.List.{AllByRecursion, range_with_len}
use Rattle.std.specs.Ordering.{int_cmp}
use Rattle.std.specs.Cmp.Lexicographic.{slice_cmp}
use Rattle.std.specs.declared.cmp.Ordering.TheVariants.{Less}
use Rattle.domain.specs.declared.chunk.Chunk.{Chunk}
use Rattle.domain.specs.Tables.{Table, Block, depth, block_at, counters, turning, is_post, trip}

-- an instance: its block, by rank, and its counters, with zeros after them
pub record Instance : Type 0 where
  pub block : ℕ
  pub at : List ℤ

abbrev pub instance : ℕ → List ℤ → Instance
instance block at = record { block = block; at = at }

abbrev pub block_of : Table → Instance → Block
block_of t x = block_at t x.block

abbrev pub counter : List ℤ → ℕ → ℤ
counter at k = slice_index_or at k (pos 0)

-- the number of turns: the trip, or 0 where that is negative
abbrev pub turns_of : ℤ → ℤ
turns_of z = if int_lt z (pos 0) then pos 0 else z

-- a place of the padded point: the counters, then zeros; after the counters of a post block the number of turns of the
-- loop before it
abbrev pub place : Table → Block → List ℤ → ℕ → ℤ
place t b at k = if nat_lt k (counters t b) then counter at k else (if is_post b.part && nat_eq k (counters t b) then turns_of (trip t k at) else pos 0)

-- the padded point
unfoldable pub padded : Table → Instance → List ℤ
padded t x = map (place t (block_of t x) x.at) (range_with_len 0 (depth t))

-- an instance of a present block
pub record IsInstance (t : Table) (x : Instance) : Type 0 where
  pub block : x.block < length t.blocks
  pub size : length x.at ≡ depth t
  pub rest : (k : ℕ) → counters t (block_of t x) ≤ k → counter x.at k ≡ pos 0

-- ---- predicted instances

-- the first n loops are in a turn of the chunk, within the predicted trips
pub record InTurn (t : Table) (chunk : Chunk) (n : ℕ) (at : List ℤ) : Type 0 where
  pub from : chunk.first ≤ℤ counter at 0
  pub below : counter at 0 <ℤ (chunk.first +ℤ chunk.turns)
  pub inner : (k : ℕ) → 1 ≤ k → k < n → (pos 0 ≤ℤ counter at k) × (counter at k <ℤ trip t k at)

-- the condition of an inner `while` is tested for 0 to the trip, and for 0 in any case
abbrev pub Tested : ℤ → ℤ → Type 0
Tested turn trip = (turn ≡ pos 0) ⊎ ((pos 0 ≤ℤ turn) × (turn ≤ℤ trip))

-- an instance that is predicted for the chunk
pub record Predicted (t : Table) (chunk : Chunk) (x : Instance) : Type 0 where
  pub is : IsInstance t x
  pub turn : InTurn t chunk (turning (block_of t x)) x.at
  pub test : turning (block_of t x) < counters t (block_of t x) → Tested (counter x.at (turning (block_of t x))) (trip t (turning (block_of t x)) x.at)

-- ---- original order: the padded point first, and then the rank

abbrev pub original_key : Table → Instance → List ℤ
original_key t x = padded t x ++ pos x.block ∷ []

abbrev pub Precedes : Table → Instance → Instance → Type 0
Precedes t x y = slice_cmp int_cmp (original_key t x) (original_key t y) ≡ Less

-- each element stands in R to all that come after it
abbrev pub Ordered : {X : Type 0} → (X → X → Type 0) → List X → Type 0
Ordered R [] = Unit {0}
Ordered R (x ∷ xs) = AllByRecursion (R x) xs × Ordered R xs

-- *Predicted*: the predicted instances of a chunk, in original order
pub record IsOriginal (t : Table) (chunk : Chunk) (xs : List Instance) : Type 0 where
  pub ordered : Ordered (Precedes t) xs
  pub has : (x : Instance) → Contains xs x ↔ Predicted t chunk x

-- the first present block at a turn of the outermost loop, with inner counters 0
abbrev pub opening_at : Table → ℤ → Instance
opening_at t turn = instance 0 (slice_set (replicate (depth t) (pos 0)) 0 turn)

-- y is the instance after x: the next predicted one of the chunk, and after the last one the first block at the turn
-- after the chunk
pub record IsSuccessor (t : Table) (chunk : Chunk) (x y : Instance) : Type 0 where
  pub after : Precedes t x y
  pub next : (z : Instance) → Predicted t chunk z → Precedes t x z → (z ≡ y) ⊎ Precedes t y z
  pub is : Predicted t chunk y ⊎ (y ≡ opening_at t (chunk.first +ℤ chunk.turns))
