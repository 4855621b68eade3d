-- Reorder laws: lists of instances of a table that have one follow run.
use Rattle.std.specs.Prelude.{◌≡◌, ℕ, ◌<◌, ℤ, pos, List, ◌∷◌, ◌++◌, length, slice_index_or, Option}
use Rattle.std.specs.List.{AllByRecursion}
use Rattle.nest_lang.specs.declared.tree.Loop.{Loop}
use Rattle.nest_lang.specs.declared.state.Outer.{Outer}
use Rattle.orders.specs.Runs.{Outcome}
use Rattle.orders.specs.Orders.{Ordered, SameElements, Differ, Before, range, placed}
use Rattle.domain.specs.declared.chunk.Chunk.{Chunk}
use Rattle.domain.specs.Tables.{Table}
use Rattle.domain.specs.Instances.{Instance, Predicted}
use Rattle.domain.specs.Footprints.{Conflict}
use Rattle.follow.specs.FollowRuns.{follow_run}
use Rattle.follow_chunk.specs.Predicted.{forecast_of}
use Rattle.follow_chunk.specs.Items.{items_at, scalars_after}
use Rattle.follow_chunk.specs.Nests.{IsNest, IsInTurns}
use Rattle.follow_chunk.specs.Tasks.{TaskState, IsSomeTask}

-- the follow run of instances: of what they run, from the scalars that the table expects, against those of their
-- successors
abbrev pub run_of : Table → List Loop → Outer → List Instance → List ℤ → Option Outcome
run_of t loops o xs m = follow_run (forecast_of t) (scalars_after t) (items_at t loops o xs) m

-- the swap law: two neighbours in a list whose footprints do not conflict may be exchanged without changing the follow
-- run, its None included
abbrev pub SwapKeeps : Type 0
SwapKeeps =
    (D scalars : ℕ) (loops : List Loop) (t : Table) (o : Outer) (xs ys : List Instance) (x y : Instance) (m : List ℤ) → IsNest D scalars loops t → IsInTurns t x → IsInTurns t y
    → (Conflict t (pos (length m)) x y → ⊥) → run_of t loops o (xs ++ x ∷ y ∷ ys) m ≡ run_of t loops o (xs ++ y ∷ x ∷ ys) m

-- the permutation law: for each permutation of a list, in which no instance stands twice, that keeps the order of every
-- pair whose footprints conflict, the follow run of both lists is equal, None included
abbrev pub PermutationKeeps : Type 0
PermutationKeeps =
    (D scalars : ℕ) (loops : List Loop) (t : Table) (o : Outer) (xs ys : List Instance) (m : List ℤ) → IsNest D scalars loops t → AllByRecursion (IsInTurns t) xs
    → Ordered Differ xs → Ordered Differ ys → SameElements xs ys → ((x y : Instance) → Conflict t (pos (length m)) x y → Before xs x y → Before ys x y)
    → run_of t loops o xs m ≡ run_of t loops o ys m

-- the same of every list, by places: `places` has each place of the list once, and two instances whose footprints
-- conflict stand in their order
abbrev pub PlacesKeep : Type 0
PlacesKeep =
    (D scalars : ℕ) (loops : List Loop) (t : Table) (o : Outer) (xs : List Instance) (d : Instance) (places : List ℕ) (m : List ℤ) → IsNest D scalars loops t → AllByRecursion (IsInTurns t) xs
    → Ordered Differ places → SameElements (range 0 (length xs)) places
    → ((i j : ℕ) → Before places i j → j < i → Conflict t (pos (length m)) (slice_index_or xs j d) (slice_index_or xs i d) → ⊥)
    → run_of t loops o xs m ≡ run_of t loops o (placed xs d places) m

-- a predicted instance of a launched chunk is one of its nest, in a turn of each loop around it
abbrev pub PredictedAreInTurns : Type 0
PredictedAreInTurns =
    (D : ℕ) (k : TaskState) (x : Instance) → IsSomeTask D k → Predicted k.pred k.chunk x → IsNest D k.scalars k.loops k.pred × IsInTurns k.pred x
