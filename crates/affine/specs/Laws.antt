-- Laws of rows and matrices, each for all of them and for all whole-number points.
use Rattle.std.specs.Prelude.{◌≡◌, ◌↔◌, ℤ, pos, neg_ℤ, ◌+ℤ◌, ◌*ℤ◌, ◌≤ℤ◌, ◌<ℤ◌, ◌<◌, ◌≢◌, ℕ, length, slice_index_or, swap, List, []}
use Rattle.std.specs.Int.{int_div_euclid}
use Rattle.affine.specs.declared.row.Row.{Row}
use Rattle.affine.specs.Inverses.{across, IsSquare, IsInverse}
use Rattle.affine.specs.Matrices.{product, identity, skew, IsOneToOne, IsOnto}
use Rattle.affine.specs.Sums.{dot, weighted}
use Rattle.affine.specs.Divisors.{common_divisor, IsGreatestDivisor}
use Rattle.affine.specs.Rows.{row_of, variables, sum_at, Meets, combination, normal}

-- what Euclid's rule gives divides each number, and each number that divides them all divides it
abbrev pub DivisorIsGreatest : Type 0
DivisorIsGreatest = (numbers : List ℤ) → IsGreatestDivisor numbers (common_divisor numbers)

-- division rounds down: the quotient is the greatest number whose product with the divisor is at most the number
abbrev pub FloorIsGreatest : Type 0
FloorIsGreatest = (number divisor v : ℤ) → pos 0 <ℤ divisor → ((divisor *ℤ v) ≤ℤ number) ↔ (v ≤ℤ int_div_euclid number divisor)

-- a whole-number point meets a row exactly where it meets the row's normal form
abbrev pub NormalKeepsPoints : Type 0
NormalKeepsPoints = (row : Row) (point : List ℤ) → Meets point row ↔ Meets point (normal row)

-- the normal form is its own normal form
abbrev pub NormalIsIdempotent : Type 0
NormalIsIdempotent = (row : Row) → normal (normal row) ≡ normal row

-- the sum of q·P + p·N at a point is q times the sum of P and p times the sum of N
abbrev pub CombinationIsLinear : Type 0
CombinationIsLinear = (q : ℤ) (P : Row) (p : ℤ) (N : Row) (point : List ℤ) → variables P ≡ variables N → sum_at (combination q P p N) point ≡ q *ℤ sum_at P point +ℤ p *ℤ sum_at N point

-- the unit matrix maps each point to itself
abbrev pub IdentityKeepsPoints : Type 0
IdentityKeepsPoints = (point : List ℤ) → product (identity (length point)) point ≡ point

-- the product is linear in the point
abbrev pub ProductIsLinear : Type 0
ProductIsLinear = (rows : List (List ℤ)) (q : ℤ) (x : List ℤ) (p : ℤ) (y : List ℤ) → length x ≡ length y → product rows (weighted q x p y) ≡ weighted q (product rows x) p (product rows y)

-- the unit matrix maps whole-number points one to one
abbrev pub IdentityIsOneToOne : Type 0
IdentityIsOneToOne = (n : ℕ) → IsOneToOne n (identity n)

-- a matrix that maps whole-number points one to one still does after two of its rows are exchanged
abbrev pub SwapKeepsOneToOne : Type 0
SwapKeepsOneToOne = (n : ℕ) (rows : List (List ℤ)) (a b : ℕ) → a < length rows → b < length rows → IsOneToOne n rows → IsOneToOne n (swap rows a b)

-- and after a row has gained a multiple of another row of the same length
abbrev pub SkewKeepsOneToOne : Type 0
SkewKeepsOneToOne = (n : ℕ) (rows : List (List ℤ)) (a b : ℕ) (m : ℤ) → a < length rows → a ≢ b → length (slice_index_or rows a []) ≡ length (slice_index_or rows b []) → IsOneToOne n rows → IsOneToOne n (skew rows a b m)

-- the unit matrix is its own inverse
abbrev pub IdentityIsInverse : Type 0
IdentityIsInverse = (n : ℕ) → IsInverse n (identity n) (identity n)

-- an exchange of two rows exchanges the same two columns of the inverse
abbrev pub SwapKeepsInverse : Type 0
SwapKeepsInverse = (n : ℕ) (rows columns : List (List ℤ)) (a b : ℕ) → a < n → b < n → IsInverse n rows columns → IsInverse n (swap rows a b) (swap columns a b)

-- where row a gains m times row b, column b of the inverse loses m times column a
abbrev pub SkewKeepsInverse : Type 0
SkewKeepsInverse =
    (n : ℕ) (rows columns : List (List ℤ)) (a b : ℕ) (m : ℤ) → a < n → b < n → a ≢ b → IsInverse n rows columns
    → IsInverse n (skew rows a b m) (skew columns b a (neg_ℤ m))

-- a matrix that has an inverse maps whole-number points one to one and onto
pub record InvertedIsOneToOneAndOnto : Type 0 where
  pub one : (n : ℕ) (rows columns : List (List ℤ)) → IsInverse n rows columns → IsOneToOne n rows
  pub onto : (n : ℕ) (rows columns : List (List ℤ)) → IsInverse n rows columns → IsOnto n rows

-- a sum of products over points is one over the products of the points, with the products of the columns as its
-- coefficients
abbrev pub FormOverPlaces : Type 0
FormOverPlaces =
    (n : ℕ) (columns : List (List ℤ)) (coef place : List ℤ) → IsSquare n columns → length coef ≡ n → length place ≡ n
    → dot coef (across n columns place) ≡ dot (product columns coef) place

-- a row over points as a row over their products
abbrev pub RowOverPlaces : Type 0
RowOverPlaces =
    (n : ℕ) (rows columns : List (List ℤ)) (row : Row) (point : List ℤ) → IsInverse n rows columns → variables row ≡ n → length point ≡ n
    → Meets point row ↔ Meets (product rows point) (row_of (product columns row.coef.items) row.cst)

-- the numbers with one floored quotient are those from the product with it up to below the next
abbrev pub QuotientIsInterval : Type 0
QuotientIsInterval =
    (number divisor quotient : ℤ) → pos 0 <ℤ divisor
    → (int_div_euclid number divisor ≡ quotient) ↔ (((divisor *ℤ quotient) ≤ℤ number) × (number <ℤ (divisor *ℤ (quotient +ℤ pos 1))))
