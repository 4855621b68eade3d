-- The points that several blocks have left, by place and then by the rank of the block.
use Rattle.std.specs.Prelude.{◌≡◌, ℕ, zero, suc, ℤ, Option, Some, None, if◌then◌else◌, List, [], ◌∷◌, ◌++◌, map, drop, ◌↔◌}
use Rattle.std.specs.Ordering.{int_cmp, is_lt, nat_cmp, ordering_then}
use Rattle.std.specs.declared.cmp.Ordering.{Ordering}
use Rattle.std.specs.declared.cmp.Ordering.TheVariants.{Less}
use Rattle.std.specs.Cmp.Lexicographic.{slice_cmp}
use Rattle.std.specs.List.{AllByRecursion}
use Rattle.orders.specs.Orders.{Ordered}
use Rattle.plain_lemmas.specs.Lists.{Has}
use Rattle.level_walk.specs.Orders.{Precedes}
use Rattle.level_walk.specs.declared.merges.Best.{Best}

-- a point of the block with this rank
abbrev pub tag : ℕ → List ℤ → Best
tag rank point = record { rank = rank; point = record { items = point } }

-- by place and then by rank
abbrev pub by_place : Best → Best → Ordering
by_place x y = ordering_then (slice_cmp int_cmp x.point.items y.point.items) (nat_cmp x.rank y.rank)

abbrev pub Comes : Best → Best → Type 0
Comes x y = by_place x y ≡ Less

-- the points of the blocks, of which the first has this rank
abbrev pub tagged : ℕ → List (List (List ℤ)) → List Best
tagged rank [] = []
tagged rank (points ∷ blocks) = map (tag rank) points ++ tagged (suc rank) blocks

-- a sort: each goes before the first that comes after it
abbrev pub put : Best → List Best → List Best
put x [] = x ∷ []
put x (y ∷ ys) = if is_lt (by_place y x) then y ∷ put x ys else x ∷ y ∷ ys

abbrev pub sorted : List Best → List Best
sorted [] = []
sorted (x ∷ xs) = put x (sorted xs)

-- what the blocks have left, by place and then by rank
unfoldable pub merged : List (List (List ℤ)) → List Best
merged blocks = sorted (tagged 0 blocks)

-- the better of the best so far and a point of a later block
abbrev pub better : Option Best → Best → Best
better None x = x
better (Some b) x = if is_lt (slice_cmp int_cmp x.point.items b.point.items) then x else b

abbrev pub pick : Option Best → ℕ → List (List ℤ) → Option Best
pick best rank [] = best
pick best rank (point ∷ rest) = Some (better best (tag rank point))

-- the least of the first points of the blocks, of those with one place that of the least rank
unfoldable pub first : Option Best → ℕ → List (List (List ℤ)) → Option Best
first best rank [] = best
first best rank (points ∷ blocks) = first (pick best rank points) (suc rank) blocks

-- the blocks once the first point of one is taken off
abbrev pub stepped : ℕ → List (List (List ℤ)) → List (List (List ℤ))
stepped rank [] = []
stepped zero (points ∷ blocks) = drop 1 points ∷ blocks
stepped (suc rank) (points ∷ blocks) = points ∷ stepped rank blocks

-- each block has its points in order
abbrev pub AllOrdered : List (List (List ℤ)) → Type 0
AllOrdered blocks = AllByRecursion (Ordered Precedes) blocks

-- the merged list has exactly the points of the blocks, by place and then by rank, and so each once
pub record IsMerged (blocks : List (List (List ℤ))) (list : List Best) : Type 0 where
  pub ordered : Ordered Comes list
  pub same : (best : Best) → Has list best ↔ Has (tagged 0 blocks) best
