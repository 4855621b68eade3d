-- Square matrices of whole numbers, as the list of their rows.
use Rattle.std.specs.Prelude.{◌≡◌, ℕ, ℤ, pos, List, [], ◌∷◌, map, replicate, slice_set, slice_index_or, ◌^◌, length, refl}
use Rattle.std.specs.List.{All, range_with_len}
use Rattle.affine.specs.Forms.{AllWithinSize}
use Rattle.affine.specs.Sums.{dot, weighted}

-- the product with a point: the sum of each row's products with it
abbrev pub product : List (List ℤ) → List ℤ → List ℤ
product rows point = map (λ row. dot row point) rows

-- n numbers, of which that at a place is 1 and the others are 0
abbrev pub unit_row : ℕ → ℕ → List ℤ
unit_row n place = slice_set (replicate n (pos 0)) place (pos 1)

-- the unit matrix of n rows
abbrev pub identity : ℕ → List (List ℤ)
identity n = map (unit_row n) (range_with_len 0 n)

-- the matrix in which row a has gained m times row b
abbrev pub skew : List (List ℤ) → ℕ → ℕ → ℤ → List (List ℤ)
skew rows a b m = slice_set rows a (weighted (pos 1) (slice_index_or rows a []) m (slice_index_or rows b []))

identity-two : identity 2 ≡ (pos 1 ∷ pos 0 ∷ []) ∷ (pos 0 ∷ pos 1 ∷ []) ∷ []
identity-two = refl

-- the second row with once the first maps (4, 7) to (4, 11)
product-skew : product (skew (identity 2) 1 0 (pos 1)) (pos 4 ∷ pos 7 ∷ []) ≡ pos 4 ∷ pos 11 ∷ []
product-skew = refl

-- every entry is at most 2^20 in size
abbrev pub HasSmallEntries : List (List ℤ) → Type 0
HasSmallEntries rows = All (AllWithinSize (2 ^ 20)) rows

-- equal products come from equal points of n numbers only
abbrev pub IsOneToOne : ℕ → List (List ℤ) → Type 0
IsOneToOne n rows = (first second : List ℤ) → length first ≡ n → length second ≡ n → product rows first ≡ product rows second → first ≡ second

-- a point of n numbers that a matrix maps to a place
pub record ComesFrom (n : ℕ) (rows : List (List ℤ)) (place : List ℤ) : Type 0 where
  pub point : List ℤ
  pub long : length point ≡ n
  pub maps : product rows point ≡ place

-- each list of n numbers is the product of a point of n numbers
abbrev pub IsOnto : ℕ → List (List ℤ) → Type 0
IsOnto n rows = (place : List ℤ) → length place ≡ n → ComesFrom n rows place
