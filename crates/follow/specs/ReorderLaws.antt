-- Reorder laws: lists of instances that have one follow run.
use Rattle.std.specs.Prelude.{◌≡◌, ◌⊎◌, ℕ, ◌<◌, ℤ, Bool, true, ◌||◌, List, ◌∷◌, ◌++◌, length, slice_index_or}
use Rattle.std.specs.Ordering.{int_cmp}
use Rattle.std.specs.Cmp.Lexicographic.{slice_cmp}
use Rattle.nest_lang.specs.declared.tree.Loop.{Loop}
use Rattle.nest_lang.specs.declared.state.Outer.{Outer}
use Rattle.orders.specs.Runs.{Lawful}
use Rattle.orders.specs.Orders.{Ordered, SameElements, Differ, Before, Precedes, IsOrdering, range, placed}
use Rattle.plain_lemmas.specs.Lists.{Has}
use Rattle.follow.specs.Forecasts.{Forecast}
use Rattle.follow.specs.Plans.{planned, Item}
use Rattle.follow.specs.FollowRuns.{follow_run}
use Rattle.follow.specs.OriginalOrder.{ranked_key}
use Rattle.follow.specs.Footprints.{item_reads, item_writes, follow_machine}

-- an instance reads or writes the word
abbrev pub item_touches : Forecast → ℕ → Item → ℕ → Bool
item_touches p words i a = item_reads p words i a || item_writes p i a

-- two instances conflict where a write of one is a read or a write of the other
abbrev pub Conflict : Forecast → ℕ → Item → Item → Type 0
Conflict p words x y = (a : ℕ) × (((item_writes p x a ≡ true) × (item_touches p words y a ≡ true)) ⊎ ((item_writes p y a ≡ true) × (item_touches p words x a ≡ true)))

-- for each forecast, an instance depends on the words of its footprint alone, and changes only the words that it writes
abbrev pub FollowIsLawful : Type 0
FollowIsLawful = (p : Forecast) (after : Item → List ℤ) (words : ℕ) → Lawful (follow_machine p after words)

-- the swap law: two neighbours in a list that do not conflict may be exchanged without changing the follow run, its
-- None included
abbrev pub SwapKeeps : Type 0
SwapKeeps = (p : Forecast) (after : Item → List ℤ) (xs ys : List Item) (x y : Item) (m : List ℤ) → (Conflict p (length m) x y → ⊥)
    → follow_run p after (xs ++ x ∷ y ∷ ys) m ≡ follow_run p after (xs ++ y ∷ x ∷ ys) m

-- the permutation law: for each permutation of a list, in which no instance stands twice, that keeps the order of
-- every conflicting pair, the follow run of both lists is equal, None included
abbrev pub PermutationKeeps : Type 0
PermutationKeeps = (p : Forecast) (after : Item → List ℤ) (xs ys : List Item) (m : List ℤ) → Ordered Differ xs → Ordered Differ ys → SameElements xs ys
    → ((x y : Item) → Conflict p (length m) x y → Before xs x y → Before ys x y) → follow_run p after xs m ≡ follow_run p after ys m

-- the same of every list, by places: `places` has each place of the list once, and two conflicting instances stand in
-- their order
abbrev pub PlacesKeep : Type 0
PlacesKeep = (p : Forecast) (after : Item → List ℤ) (xs : List Item) (d : Item) (places : List ℕ) (m : List ℤ) → Ordered Differ places → SameElements (range 0 (length xs)) places
    → ((i j : ℕ) → Before places i j → j < i → Conflict p (length m) (slice_index_or xs j d) (slice_index_or xs i d) → ⊥)
    → follow_run p after xs m ≡ follow_run p after (placed xs d places) m

-- the instances of a chunk may be run in the order of another key, which keeps the order of every conflicting pair
abbrev pub OrderKeeps : Type 0
OrderKeeps = (p : Forecast) (after : Item → List ℤ) (loops : List Loop) (o : Outer) (c : ℕ) (second : Item → List ℤ) (ys : List Item) (m : List ℤ)
    → IsOrdering (Precedes (slice_cmp int_cmp) second) (planned p loops o c) ys
    → ((x y : Item) → Has (planned p loops o c) x → Has (planned p loops o c) y → Conflict p (length m) x y
    → Precedes (slice_cmp int_cmp) (ranked_key p loops) x y → Precedes (slice_cmp int_cmp) second x y)
    → follow_run p after (planned p loops o c) m ≡ follow_run p after ys m
