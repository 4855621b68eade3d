-- How large the numbers of a combination are.
use Rattle.std.proofs.Common.{◌≤◌, ◌^◌, ◌+◌, ◌*◌, ℕ, ℤ, ◌+ℤ◌, ◌*ℤ◌, unsigned_abs, FitsSigned, arith}
use Rattle.std.specs.Int.{w128}
use Rattle.std.proofs.lemmas.Int.{fits_signed_from_abs}
use Rattle.plain_lemmas.proofs.IntegerLaws.{unsigned_abs-add, unsigned_abs-mul-le}

pub abs-weighted : (q x p y : ℤ) (m : ℕ) → unsigned_abs q ≤ m → unsigned_abs x ≤ m → unsigned_abs p ≤ m → unsigned_abs y ≤ m → unsigned_abs (q *ℤ x +ℤ p *ℤ y) ≤ m * m + m * m
abs-weighted q x p y m hq hx hp hy =
    let one = unsigned_abs-mul-le q x m m hq hx in
    let two = unsigned_abs-mul-le p y m m hp hy in
    let sum = unsigned_abs-add (q *ℤ x) (p *ℤ y) in
    omega (arith, one, two, sum)

-- with numbers of at most 2^62 each product is at most 2^124, and their sum at most 2^125
pub weighted-within : (q x p y : ℤ) → unsigned_abs q ≤ 2 ^ 62 → unsigned_abs x ≤ 2 ^ 62 → unsigned_abs p ≤ 2 ^ 62 → unsigned_abs y ≤ 2 ^ 62 → unsigned_abs (q *ℤ x +ℤ p *ℤ y) ≤ 2 ^ 126
weighted-within q x p y hq hx hp hy = let bound = abs-weighted q x p y (2 ^ 62) hq hx hp hy in omega (arith, bound)

pub weighted-fits : (q x p y : ℤ) → unsigned_abs q ≤ 2 ^ 62 → unsigned_abs x ≤ 2 ^ 62 → unsigned_abs p ≤ 2 ^ 62 → unsigned_abs y ≤ 2 ^ 62 → FitsSigned w128 (q *ℤ x +ℤ p *ℤ y)
weighted-fits q x p y hq hx hp hy = let bound = weighted-within q x p y hq hx hp hy in fits_signed_from_abs w128 (q *ℤ x +ℤ p *ℤ y) (omega (arith, bound))

-- a number of at most 2^62 times one of at most 2^60 is at most 2^122
pub abs-product : (x y : ℤ) → unsigned_abs x ≤ 2 ^ 62 → unsigned_abs y ≤ 2 ^ 60 → unsigned_abs (x *ℤ y) ≤ 2 ^ 62 * 2 ^ 60
abs-product x y h k = unsigned_abs-mul-le x y (2 ^ 62) (2 ^ 60) h k

pub product-fits : (x y : ℤ) → unsigned_abs x ≤ 2 ^ 62 → unsigned_abs y ≤ 2 ^ 60 → FitsSigned w128 (x *ℤ y)
product-fits x y h k = let bound = abs-product x y h k in fits_signed_from_abs w128 (x *ℤ y) (omega (arith, bound))

pub sum-fits : (s x y : ℤ) → unsigned_abs s ≤ 2 ^ 126 → unsigned_abs x ≤ 2 ^ 62 → unsigned_abs y ≤ 2 ^ 60 → FitsSigned w128 (s +ℤ x *ℤ y)
sum-fits s x y g h k =
    let bound = abs-product x y h k in
    let sum = unsigned_abs-add s (x *ℤ y) in
    fits_signed_from_abs w128 (s +ℤ x *ℤ y) (omega (arith, bound, sum))

-- one product more of a sum of so many
pub abs-sum-more : (s x y : ℤ) (n : ℕ) → unsigned_abs s ≤ 2 ^ 62 + n * (2 ^ 62 * 2 ^ 60) → unsigned_abs x ≤ 2 ^ 62 → unsigned_abs y ≤ 2 ^ 60 → unsigned_abs (s +ℤ x *ℤ y) ≤ 2 ^ 62 + (n + 1) * (2 ^ 62 * 2 ^ 60)
abs-sum-more s x y n g h k =
    let bound = abs-product x y h k in
    let sum = unsigned_abs-add s (x *ℤ y) in
    omega (arith, bound, sum)
