-- Euclid's rule gives the greatest common divisor, and the same for a list of numbers.
use Rattle.std.proofs.Common.{◌≡◌, refl, sym, ◌∙◌, ap, ℕ, zero, suc, ◌≤◌, ◌<◌, ◌%◌, List, [], ◌∷◌, ◌++◌, ℤ, pos, unsigned_abs, arith, ◌+◌, length, take, get_or}
use Rattle.std.proofs.lemmas.List.{take_more, take_all}
use Rattle.std.proofs.lemmas.Nat.Gcd.{IsGcd-from_zero, IsGcd-from_mod, same_from_IsGcd, dvd-zero, dvd_refl, le_of_dvd, dvd_trans, dvd_antisymm}
use Rattle.std.proofs.lemmas.List.Elements.{All-nil, All-cons, All-head, All-tail, All-weaker, All-push}
use Rattle.std.specs.List.{All}
use Rattle.std.specs.Int.{IsGcd, ◌∣◌}
use Rattle.affine.specs.Divisors.{gcd, gcd_within, common_divisor, IsGreatestDivisor}

IsGcd-gcd_within : (steps a b : ℕ) → b ≤ steps → IsGcd a b (gcd_within steps a b)
IsGcd-gcd_within steps a zero h = IsGcd-from_zero a zero refl
IsGcd-gcd_within zero a (suc b) h = absurd (omega arith)
IsGcd-gcd_within (suc steps) a (suc b) h = IsGcd-from_mod a (suc b) _ (IsGcd-gcd_within steps (suc b) (a % suc b) (omega arith))

pub IsGcd-gcd : (a b : ℕ) → IsGcd a b (gcd a b)
unfolding gcd
IsGcd-gcd a b = IsGcd-gcd_within b a b (omega arith)

-- what is a greatest common divisor is the one of Euclid's rule
pub gcd-unique : (a b g : ℕ) → IsGcd a b g → g ≡ gcd a b
gcd-unique a b g h = same_from_IsGcd a b g (gcd a b) h (IsGcd-gcd a b)

-- ---- the greatest common divisor of a list

pub IsGreatestDivisor-nil : IsGreatestDivisor [] 0
IsGreatestDivisor-nil = (All-nil (λ x. 0 ∣ unsigned_abs x), λ d h. dvd-zero d)

pub IsGreatestDivisor-cons : (x : ℤ) (xs : List ℤ) (g k : ℕ) → IsGreatestDivisor xs g → IsGcd (unsigned_abs x) g k → IsGreatestDivisor (x ∷ xs) k
IsGreatestDivisor-cons x xs g k rest first = (
  All-cons (λ y. k ∣ unsigned_abs y) x xs first.0 (All-weaker (λ y. g ∣ unsigned_abs y) (λ y. k ∣ unsigned_abs y) (λ y h. dvd_trans k first.1 h) xs rest.0),
  λ d h. first.2 d (All-head (λ y. d ∣ unsigned_abs y) x xs h) (rest.1 d (All-tail (λ y. d ∣ unsigned_abs y) x xs h)),
)

pub IsGreatestDivisor-push : (x : ℤ) (xs : List ℤ) (g k : ℕ) → IsGreatestDivisor xs g → IsGcd (unsigned_abs x) g k → IsGreatestDivisor (xs ++ x ∷ []) k
IsGreatestDivisor-push x xs g k rest last = (
  All-push (λ y. k ∣ unsigned_abs y) xs x (All-weaker (λ y. g ∣ unsigned_abs y) (λ y. k ∣ unsigned_abs y) (λ y h. dvd_trans k last.1 h) xs rest.0) last.0,
  λ d h. last.2 d (All-last (λ y. d ∣ unsigned_abs y) xs x h) (rest.1 d (All-front (λ y. d ∣ unsigned_abs y) xs x h)),
)
  where
    All-last : (P : ℤ → Type 0) (ys : List ℤ) (y : ℤ) → All P (ys ++ y ∷ []) → P y
    All-last P [] y h = All-head P y [] h
    All-last P (z ∷ zs) y h = All-last P zs y (All-tail P z (zs ++ y ∷ []) h)

    All-front : (P : ℤ → Type 0) (ys : List ℤ) (y : ℤ) → All P (ys ++ y ∷ []) → All P ys
    All-front P [] y h = All-nil P
    All-front P (z ∷ zs) y h = All-cons P z zs (All-head P z (zs ++ y ∷ []) h) (All-front P zs y (All-tail P z (zs ++ y ∷ []) h))

pub IsGreatestDivisor-common_divisor : (xs : List ℤ) → IsGreatestDivisor xs (common_divisor xs)
IsGreatestDivisor-common_divisor [] = IsGreatestDivisor-nil
IsGreatestDivisor-common_divisor (x ∷ xs) =
    IsGreatestDivisor-cons x xs (common_divisor xs) (gcd (unsigned_abs x) (common_divisor xs)) (IsGreatestDivisor-common_divisor xs) (IsGcd-gcd (unsigned_abs x) (common_divisor xs))

pub common_divisor-unique : (xs : List ℤ) (g : ℕ) → IsGreatestDivisor xs g → g ≡ common_divisor xs
common_divisor-unique xs g h =
    let k = IsGreatestDivisor-common_divisor xs in
    dvd_antisymm (k.1 g h.0) (h.1 (common_divisor xs) k.0)

pub common_divisor-push : (xs : List ℤ) (x : ℤ) → common_divisor (xs ++ x ∷ []) ≡ gcd (unsigned_abs x) (common_divisor xs)
common_divisor-push xs x =
    sym (common_divisor-unique (xs ++ x ∷ []) _ (IsGreatestDivisor-push x xs (common_divisor xs) _ (IsGreatestDivisor-common_divisor xs) (IsGcd-gcd (unsigned_abs x) (common_divisor xs))))

pub common_divisor-more : (xs : List ℤ) (i : ℕ) → i < length xs → common_divisor (take (i + 1) xs) ≡ gcd (unsigned_abs (get_or xs i (pos 0))) (common_divisor (take i xs))
common_divisor-more xs i h = rw (take_more xs i (pos 0) h, common_divisor-push) refl

pub ruleset divisors = (common_divisor-more, take_all)

-- ---- the greatest common divisor is no greater than a bound on the numbers

gcd-zero : (b : ℕ) → gcd 0 b ≡ b
gcd-zero b = sym (gcd-unique 0 b b (dvd-zero b, dvd_refl b, λ d h k. k))

gcd-≤ : (a b most : ℕ) → a ≤ most → b ≤ most → gcd a b ≤ most
gcd-≤ zero b most h k = rw (gcd-zero b) k
gcd-≤ (suc a) b most h k = let small = le_of_dvd (omega arith) (IsGcd-gcd (suc a) b).0 in omega (arith, small)

pub common_divisor-≤ : (xs : List ℤ) (most : ℕ) → All (λ x. unsigned_abs x ≤ most) xs → common_divisor xs ≤ most
common_divisor-≤ [] most h = omega arith
common_divisor-≤ (x ∷ xs) most h =
    gcd-≤ (unsigned_abs x) (common_divisor xs) most (All-head (λ y. unsigned_abs y ≤ most) x xs h) (common_divisor-≤ xs most (All-tail (λ y. unsigned_abs y ≤ most) x xs h))
