-- Rows: whole-number inequalities, and the points that meet them.
use Rattle.std.specs.Prelude.{◌≡◌, ℕ, ℤ, pos, negsuc, zero, suc, ◌+ℤ◌, ◌*ℤ◌, ◌≤ℤ◌, List, [], ◌∷◌, length, map, slice_index_or, refl}
use Rattle.std.specs.Int.{int_div_euclid}
use Rattle.std.specs.List.{All}
use Rattle.affine.specs.declared.row.Row.{Row}
use Rattle.affine.specs.Sums.{dot, weighted}
use Rattle.affine.specs.Divisors.{gcd, common_divisor}

-- the row with these coefficients and this constant
abbrev pub row_of : List ℤ → ℤ → Row
row_of coef cst = record { coef = record { items = coef }; cst = cst }

-- the number of a row's variables
abbrev pub variables : Row → ℕ
variables row = length row.coef.items

-- the coefficient of a variable
abbrev pub coefficient : Row → ℕ → ℤ
coefficient row variable = slice_index_or row.coef.items variable (pos 0)

-- a row without variables: every coefficient is 0
abbrev pub IsConstant : Row → Type 0
IsConstant row = All (λ number. number ≡ pos 0) row.coef.items

-- the sum of a row at a point: each coefficient times the point's number at that place, and the constant
abbrev pub sum_at : Row → List ℤ → ℤ
sum_at row point = dot row.coef.items point +ℤ row.cst

-- a point meets a row where the sum there is at least 0
abbrev pub Meets : List ℤ → Row → Type 0
Meets point row = pos 0 ≤ℤ sum_at row point

-- the row q·P + p·N
abbrev pub combination : ℤ → Row → ℤ → Row → Row
combination q P p N = row_of (weighted q P.coef.items p N.coef.items) (q *ℤ P.cst +ℤ p *ℤ N.cst)

-- a row over a divisor, each quotient rounded down; over 0 the row stays
abbrev pub row_over : ℕ → Row → Row
row_over zero row = row
row_over (suc n) row = row_of (map (λ number. int_div_euclid number (pos (suc n))) row.coef.items) (int_div_euclid row.cst (pos (suc n)))

-- the normal form of a row: the row over the greatest common divisor of its coefficients, which divides each of
-- them, so that the constant alone is rounded; a row without variables stays
unfoldable pub normal : Row → Row
normal row = row_over (common_divisor row.coef.items) row

-- 2x - 1 >= 0 is x - 1 >= 0
normal-half : normal (row_of (pos 2 ∷ []) (negsuc 0)) ≡ row_of (pos 1 ∷ []) (negsuc 0)
unfolding normal gcd
normal-half = refl

-- -2x + 1 >= 0 is -x >= 0
normal-other_half : normal (row_of (negsuc 1 ∷ []) (pos 1)) ≡ row_of (negsuc 0 ∷ []) (pos 0)
unfolding normal gcd
normal-other_half = refl

-- 3x + 3y - 4 >= 0 is x + y - 2 >= 0
normal-sum : normal (row_of (pos 3 ∷ pos 3 ∷ []) (negsuc 3)) ≡ row_of (pos 1 ∷ pos 1 ∷ []) (negsuc 1)
unfolding normal gcd
normal-sum = refl

-- a row without variables stays
normal-constant : normal (row_of (pos 0 ∷ pos 0 ∷ []) (negsuc 4)) ≡ row_of (pos 0 ∷ pos 0 ∷ []) (negsuc 4)
unfolding normal gcd
normal-constant = refl
