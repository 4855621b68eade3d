-- The normal form of a row.
use Rattle.std.proofs.Common.{◌≡◌, refl, ap, ℕ, zero, suc, max, ◌≤◌, ℤ, pos, ◌*ℤ◌, ◌↔◌, unsigned_abs, List, [], ◌∷◌, map, subst, get_or, le_refl, ◌*◌, arith}
use Rattle.std.specs.Int.{int_div_euclid, ◌∣◌}
use Rattle.std.proofs.lemmas.List.{length-map}
use Rattle.std.proofs.lemmas.List.Elements.{All-head, All-tail, All-weaker, All-map}
use Rattle.std.proofs.Math.Nat.{zero-div, eq-one_of_dvd-one, dvd_of_mul-dvd-mul_left, mul-dvd-mul_left}
use Rattle.std.proofs.lemmas.Int.{unsigned_abs-mul}
use Rattle.std.specs.List.{All}
use Rattle.affine.specs.declared.row.Row.{Row}
use Rattle.affine.specs.Divisors.{common_divisor}
use Rattle.affine.specs.Rows.{row_of, row_over, normal, variables, coefficient, IsConstant, Meets}
use Rattle.affine.specs.Sums.{dot}
use Rattle.affine.proofs.FloorLaws.{floor-one, abs-floor, mul-floor, non-negative-floor}
use Rattle.affine.proofs.SumLaws.{dot-map-mul}
use Rattle.affine.proofs.DivisorLaws.{common_divisor-≤, IsGreatestDivisor-common_divisor}

map-floor-one : (xs : List ℤ) → map (λ x. int_div_euclid x (pos 1)) xs ≡ xs
map-floor-one [] = refl
map-floor-one (x ∷ xs) = rw (floor-one x, map-floor-one xs) refl

pub row_over-one : (row : Row) → row_over 1 row ≡ row
row_over-one row = rw (map-floor-one row.coef.items, floor-one row.cst) refl

-- the quotients by the greatest common divisor, or by 1 where it is 0
row_over-max : (g : ℕ) (row : Row) → row_of (map (λ x. int_div_euclid x (pos (max g 1))) row.coef.items) (int_div_euclid row.cst (pos (max g 1))) ≡ row_over g row
row_over-max zero row = row_over-one row
row_over-max (suc n) row = let e : max (suc n) 1 ≡ suc n = omega arith in rw e refl

pub normal-from-quotients : (row : Row) (d : ℤ) (coef : List ℤ) (cst : ℤ) → d ≡ pos (max (common_divisor row.coef.items) 1) → coef ≡ map (λ x. int_div_euclid x d) row.coef.items → cst ≡ int_div_euclid row.cst d → row_of coef cst ≡ normal row
unfolding normal
normal-from-quotients row d coef cst e f h = rw (f, h, e) (row_over-max (common_divisor row.coef.items) row)

-- ---- the normal form is met by the same whole-number points

-- the coefficients are their quotients times the divisor, where it divides each
map-mul-floor : (n : ℕ) (xs : List ℤ) → All (λ x. suc n ∣ unsigned_abs x) xs → map (λ x. pos (suc n) *ℤ x) (map (λ x. int_div_euclid x (pos (suc n))) xs) ≡ xs
map-mul-floor n [] h = refl
map-mul-floor n (x ∷ xs) h =
    let first = mul-floor x n (All-head (λ y. suc n ∣ unsigned_abs y) x xs h) in
    let rest = map-mul-floor n xs (All-tail (λ y. suc n ∣ unsigned_abs y) x xs h) in
    rw (first, rest) refl

Meets-row_over : (g : ℕ) (row : Row) (point : List ℤ) → All (λ x. g ∣ unsigned_abs x) row.coef.items → Meets point row ↔ Meets point (row_over g row)
Meets-row_over zero row point h = (λ k. k, λ k. k)
Meets-row_over (suc n) row point h =
    let quotients = map (λ x. int_div_euclid x (pos (suc n))) row.coef.items in
    let sum : dot row.coef.items point ≡ pos (suc n) *ℤ dot quotients point = rw (map-mul-floor n row.coef.items h) at (dot-map-mul (pos (suc n)) quotients point) in
    let both = non-negative-floor (dot quotients point) row.cst n in
    (λ k. both.0 (rw sum at k), λ k. rw sum (both.1 k))

pub Meets-normal : (row : Row) (point : List ℤ) → Meets point row ↔ Meets point (normal row)
unfolding normal
Meets-normal row point = Meets-row_over (common_divisor row.coef.items) row point (IsGreatestDivisor-common_divisor row.coef.items).0

-- ---- the normal form of a normal form is itself

one-from-dvd : (n h : ℕ) → suc n * h ∣ suc n → h ≡ 1
one-from-dvd n h k =
    let e : suc n ≡ suc n * 1 = omega arith in
    eq-one_of_dvd-one (dvd_of_mul-dvd-mul_left h (omega arith) (subst (λ m. suc n * h ∣ m) e k))

-- the quotients have no common divisor but 1
common_divisor-quotients : (n : ℕ) (xs : List ℤ) → common_divisor xs ≡ suc n → common_divisor (map (λ x. int_div_euclid x (pos (suc n))) xs) ≡ 1
common_divisor-quotients n xs e =
    let d = pos (suc n) in
    let quotients = map (λ x. int_div_euclid x d) xs in
    let h = common_divisor quotients in
    let exact = map-mul-floor n xs (subst (λ g. All (λ x. g ∣ unsigned_abs x) xs) e (IsGreatestDivisor-common_divisor xs).0) in
    let each = All-weaker (λ y. h ∣ unsigned_abs y) (λ y. suc n * h ∣ unsigned_abs (d *ℤ y)) (λ y k. rw (unsigned_abs-mul d y) (mul-dvd-mul_left h (suc n) k)) quotients (IsGreatestDivisor-common_divisor quotients).0 in
    let multiples : All (λ x. suc n * h ∣ unsigned_abs x) xs = rw exact at (All-map (λ x. suc n * h ∣ unsigned_abs x) (λ y. d *ℤ y) quotients each) in
    one-from-dvd n h (rw e at ((IsGreatestDivisor-common_divisor xs).1 (suc n * h) multiples))

normal-row_over : (g : ℕ) (row : Row) → common_divisor row.coef.items ≡ g → row_over (common_divisor (row_over g row).coef.items) (row_over g row) ≡ row_over g row
normal-row_over zero row e = rw e refl
normal-row_over (suc n) row e = rw (common_divisor-quotients n row.coef.items e) (row_over-one (row_over (suc n) row))

pub normal-normal : (row : Row) → normal (normal row) ≡ normal row
unfolding normal
normal-normal row = normal-row_over (common_divisor row.coef.items) row refl

pub variables-normal : (row : Row) → variables (normal row) ≡ variables row
unfolding normal
variables-normal row = variables-row_over (common_divisor row.coef.items) row
  where
    variables-row_over : (g : ℕ) (r : Row) → variables (row_over g r) ≡ variables r
    variables-row_over zero r = refl
    variables-row_over (suc n) r = length-map r.coef.items _

-- ---- sizes, and variables

All-row_over : (g : ℕ) (row : Row) (most : ℕ) → All (λ x. unsigned_abs x ≤ most) row.coef.items → All (λ x. unsigned_abs x ≤ most) (row_over g row).coef.items
All-row_over zero row most h = h
All-row_over (suc n) row most h =
    All-map (λ x. unsigned_abs x ≤ most) (λ x. int_div_euclid x (pos (suc n))) row.coef.items
    (All-weaker (λ x. unsigned_abs x ≤ most) (λ x. unsigned_abs (int_div_euclid x (pos (suc n))) ≤ most) (λ x k. let small = abs-floor x n in omega (arith, small)) row.coef.items h)

-- the coefficients of the normal form are no greater in size
pub All-normal : (row : Row) (most : ℕ) → All (λ x. unsigned_abs x ≤ most) row.coef.items → All (λ x. unsigned_abs x ≤ most) (normal row).coef.items
unfolding normal
All-normal row most h = All-row_over (common_divisor row.coef.items) row most h

pub abs-cst-normal : (row : Row) → unsigned_abs (normal row).cst ≤ unsigned_abs row.cst
unfolding normal
abs-cst-normal row = abs-row_over (common_divisor row.coef.items) row
  where
    abs-row_over : (g : ℕ) (r : Row) → unsigned_abs (row_over g r).cst ≤ unsigned_abs r.cst
    abs-row_over zero r = le_refl _
    abs-row_over (suc n) r = abs-floor r.cst n

-- a variable that the row doesn't have stays away
pub coefficient-normal-zero : (row : Row) (v : ℕ) → coefficient row v ≡ pos 0 → coefficient (normal row) v ≡ pos 0
unfolding normal
coefficient-normal-zero row v h = by (common_divisor row.coef.items)
  where
    get-map : (n : ℕ) (xs : List ℤ) (i : ℕ) → get_or xs i (pos 0) ≡ pos 0 → get_or (map (λ x. int_div_euclid x (pos (suc n))) xs) i (pos 0) ≡ pos 0
    get-map n [] i e = refl
    get-map n (x ∷ xs) zero e = rw e (ap pos (zero-div (suc n)))
    get-map n (x ∷ xs) (suc i) e = get-map n xs i e

    by : (g : ℕ) → coefficient (row_over g row) v ≡ pos 0
    by zero = h
    by (suc n) = get-map n row.coef.items v h

-- a row without variables stays
pub normal-constant : (row : Row) → IsConstant row → normal row ≡ row
unfolding normal
normal-constant row h = rw (common_divisor-zero row.coef.items h) refl
  where
    common_divisor-zero : (xs : List ℤ) → All (λ x. x ≡ pos 0) xs → common_divisor xs ≡ 0
    common_divisor-zero xs k = let small = common_divisor-≤ xs 0 (All-weaker (λ x. x ≡ pos 0) (λ x. unsigned_abs x ≤ 0) (λ x e. rw e (le_refl 0)) xs k) in omega (arith, small)
