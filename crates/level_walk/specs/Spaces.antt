-- Points level by level: the whole-number points of a box that a test accepts.
use Rattle.std.specs.Prelude.{◌≡◌, ℕ, zero, suc, ℤ, pos, negsuc, ◌+ℤ◌, ◌-ℤ◌, ◌≤ℤ◌, Bool, true, if◌then◌else◌, ◌+◌, ◌↔◌, List, [], ◌∷◌, ◌++◌, length}
use Rattle.std.specs.List.{AllByRecursion}
use Rattle.orders.specs.Orders.{Ordered}
use Rattle.plain_lemmas.specs.Lists.{Has}
use Rattle.level_walk.specs.Orders.{Precedes}

-- how many levels, the least and the greatest value at each of them, and the test of a point with a value for each
pub record Space : Type 0 where
  pub levels : ℕ
  pub least : ℤ
  pub greatest : ℤ
  pub accepts : List ℤ → Bool

-- what f gives for each of so many whole numbers from the first on
abbrev pub spread : {A : Type 0} → ℕ → ℤ → (ℤ → List A) → List A
spread zero first f = []
spread (suc n) first f = f first ++ spread n (first +ℤ pos 1) f

abbrev pub natural : ℤ → ℕ
natural (pos n) = n
natural (negsuc n) = zero

-- how many whole numbers lie from low to high
unfoldable pub span : ℤ → ℤ → ℕ
span low high = natural ((high +ℤ pos 1) -ℤ low)

-- the accepted points after these outer values, with values for so many more levels, in lexicographic order
unfoldable pub points : Space → ℕ → List ℤ → List (List ℤ)
points s zero outer = if s.accepts outer then outer ∷ [] else []
points s (suc n) outer = spread (span s.least s.greatest) s.least (λ value. points s n (outer ++ value ∷ []))

-- a value lies in the box
pub record IsWithin (low high value : ℤ) : Type 0 where
  pub least : low ≤ℤ value
  pub greatest : value ≤ℤ high

abbrev pub AllWithin : Space → List ℤ → Type 0
AllWithin s values = AllByRecursion (IsWithin s.least s.greatest) values

-- each accepted point after these outer values has its next value between low and high, which lie in the box
pub record MissesNone (s : Space) (outer : List ℤ) (low high : ℤ) : Type 0 where
  pub low_within : IsWithin s.least s.greatest low
  pub high_within : IsWithin s.least s.greatest high
  pub some : low ≤ℤ high
  pub holds : (value : ℤ) (rest : List ℤ) → length outer + suc (length rest) ≡ s.levels → IsWithin s.least s.greatest value → s.accepts (outer ++ value ∷ rest) ≡ true → (low ≤ℤ value) × (value ≤ℤ high)

-- no accepted point has these outer values
abbrev pub HasNone : Space → List ℤ → Type 0
HasNone s outer = (value : ℤ) (rest : List ℤ) → length outer + suc (length rest) ≡ s.levels → IsWithin s.least s.greatest value → s.accepts (outer ++ value ∷ rest) ≡ true → ⊥

-- an element of the set
pub record IsPoint (s : Space) (point : List ℤ) : Type 0 where
  pub long : length point ≡ s.levels
  pub within : AllWithin s point
  pub accepted : s.accepts point ≡ true

-- the list of points has exactly the elements of the set, in lexicographic order, and so each once
pub record ListsPoints (s : Space) (list : List (List ℤ)) : Type 0 where
  pub ordered : Ordered Precedes list
  pub same : (point : List ℤ) → Has list point ↔ IsPoint s point
