-- The range of a variable, where the values of the outer variables are known.
use Rattle.std.specs.Prelude.{◌≡◌, ℕ, ℤ, pos, ◌≤ℤ◌, ◌↔◌, ◌⊎◌, List, [], ◌∷◌, ◌++◌, IfSome, Option}
use Rattle.std.specs.List.{All}
use Rattle.affine.specs.declared.row.Row.{Row}
use Rattle.affine.specs.Rows.{Meets, coefficient}

-- the value, after the outer values, meets the rows
abbrev pub Allowed : List Row → List ℤ → ℤ → Type 0
Allowed rows outer value = All (Meets (outer ++ value ∷ [])) rows

-- no row bounds the variable on one side
abbrev pub IsOpen : ℕ → List Row → Type 0
IsOpen variable rows = All (λ row. coefficient row variable ≤ℤ pos 0) rows ⊎ All (λ row. pos 0 ≤ℤ coefficient row variable) rows

-- the row has this variable and no other
abbrev pub IsAlone : ℕ → Row → Type 0
IsAlone variable row = (other : ℕ) → (other ≡ variable → ⊥) → coefficient row other ≡ pos 0

-- from the least to the greatest number that P allows, all of which it allows
pub record IsRange (P : ℤ → Type 0) (least greatest : ℤ) : Type 0 where
  pub least_allowed : P least
  pub greatest_allowed : P greatest
  pub within : (value : ℤ) → P value ↔ ((least ≤ℤ value) × (value ≤ℤ greatest))

-- the value lies between the ends that are there
abbrev pub Lies : Option ℤ → Option ℤ → ℤ → Type 0
Lies least greatest value = IfSome least (λ end. end ≤ℤ value) × IfSome greatest (λ end. value ≤ℤ end)
