-- Division rounded down.
use Rattle.std.proofs.Common.{◌≡◌, refl, ap, ℕ, zero, suc, ◌+◌, ◌*◌, ◌/◌, ◌%◌, ◌<◌, ◌≤◌, ℤ, pos, negsuc, ◌+ℤ◌, ◌*ℤ◌, ◌≤ℤ◌, ◌<ℤ◌, ◌↔◌, unsigned_abs, arith, div-one}
use Rattle.std.proofs.Math.IntN.{pos-*ℤ-negsuc, *ℤ-one, neg_ℤ}
use Rattle.std.proofs.Math.Nat.{div-add-mod, mod-lt, div-le_self, mul-div_cancel'}
use Rattle.std.proofs.lemmas.Int.{ints, by_lt_z}
use Rattle.std.specs.Int.{int_div_euclid, int_rem_euclid, ◌∣◌}
use Rattle.plain_lemmas.proofs.IntegerLaws.{*ℤ-+ℤ, *ℤ-neg_ℤ, *ℤ-≤ℤ}

below-divisor : (a n : ℕ) → a % suc n < suc n
below-divisor a n = mod-lt a (omega arith)

-- what is left is at least 0 and below the divisor
pub floor-rest : (z : ℤ) (n : ℕ) → (pos 0 ≤ℤ int_rem_euclid z (pos (suc n))) × (int_rem_euclid z (pos (suc n)) <ℤ pos (suc n))
floor-rest (pos a) n = let h = below-divisor a n in (omega (arith, ints), omega (arith, ints))
floor-rest (negsuc a) n = let h = below-divisor a n in (omega (arith, ints), omega (arith, ints))

-- a number is its quotient times the divisor and what is left
pub floor-split : (z : ℤ) (n : ℕ) → z ≡ pos (suc n) *ℤ int_div_euclid z (pos (suc n)) +ℤ int_rem_euclid z (pos (suc n))
floor-split (pos a) n = let h = div-add-mod a (suc n) in omega (arith, ints)
floor-split (negsuc a) n =
    rw (pos-*ℤ-negsuc (suc n) (a / suc n))
    (let h = div-add-mod a (suc n) in
    let k = below-divisor a n in
    let more : suc n * suc (a / suc n) ≡ suc n * (a / suc n) + suc n = omega arith in
    omega (arith, ints))

-- what d times a quotient can reach, over plain numbers
le-quotient : (d v q r z : ℤ) → pos 0 ≤ℤ d → r <ℤ d → z ≡ d *ℤ q +ℤ r → (d *ℤ v) ≤ℤ z → v ≤ℤ q
le-quotient d v q r z p small e h = by_lt_z q v (λ more. absurd (too-far more)) (λ less. less)
  where
    too-far : q <ℤ v → ⊥
    too-far more =
        let k : (d *ℤ (q +ℤ pos 1)) ≤ℤ (d *ℤ v) = *ℤ-≤ℤ d (q +ℤ pos 1) v p (omega (arith, ints)) in
        let j = *ℤ-+ℤ d q (pos 1) in
        let i = *ℤ-one d in
        omega (arith, ints)

-- d times a number is at most z exactly where the number is at most the quotient rounded down
pub ≤ℤ-floor : (z v : ℤ) (n : ℕ) → ((pos (suc n) *ℤ v) ≤ℤ z) ↔ (v ≤ℤ int_div_euclid z (pos (suc n)))
≤ℤ-floor z v n =
    let d = pos (suc n) in
    let q = int_div_euclid z d in
    let rest = floor-rest z n in
    let split = floor-split z n in (
      λ h. le-quotient d v q (int_rem_euclid z d) z (omega (arith, ints)) rest.1 split h,
      λ h. let k = *ℤ-≤ℤ d v q (omega (arith, ints)) h in omega (arith, ints),
    )

-- a sum of a multiple of the divisor and z is at least 0 exactly where the sum of the quotients is
pub non-negative-floor : (s z : ℤ) (n : ℕ) → (pos 0 ≤ℤ (pos (suc n) *ℤ s +ℤ z)) ↔ (pos 0 ≤ℤ (s +ℤ int_div_euclid z (pos (suc n))))
non-negative-floor s z n =
    let both = ≤ℤ-floor z (neg_ℤ s) n in
    let turned = *ℤ-neg_ℤ (pos (suc n)) s in (
      λ h. let k = both.0 (omega (arith, ints)) in omega (arith, ints),
      λ h. let k = both.1 (omega (arith, ints)) in omega (arith, ints),
    )

-- the quotient of a multiple is exact
pub floor-mul : (v : ℤ) (n : ℕ) → int_div_euclid (pos (suc n) *ℤ v) (pos (suc n)) ≡ v
floor-mul v n =
    let z = pos (suc n) *ℤ v in
    let q = int_div_euclid z (pos (suc n)) in
    let most : v ≤ℤ q = (≤ℤ-floor z v n).0 (omega (arith, ints)) in
    let least : q ≤ℤ v = le-quotient (pos (suc n)) q v (pos 0) z (omega (arith, ints)) (omega (arith, ints)) (omega (arith, ints)) ((≤ℤ-floor z q n).1 (omega (arith, ints))) in
    omega (arith, ints)

pub floor-one : (z : ℤ) → int_div_euclid z (pos 1) ≡ z
floor-one (pos a) = ap pos (div-one a)
floor-one (negsuc a) = ap negsuc (div-one a)

-- the quotient of a multiple times the divisor
pub mul-floor : (z : ℤ) (n : ℕ) → suc n ∣ unsigned_abs z → pos (suc n) *ℤ int_div_euclid z (pos (suc n)) ≡ z
mul-floor z n h = let m = multiple-of z h in rw (m.1, floor-mul m.0 n) refl
  where
    multiple-of : (y : ℤ) → suc n ∣ unsigned_abs y → (v : ℤ) × (y ≡ pos (suc n) *ℤ v)
    multiple-of (pos a) k = (pos (a / suc n), let e = mul-div_cancel' (suc n) k in omega (arith, ints))
    multiple-of (negsuc a) k =
        let q = suc a / suc n in
        let e = mul-div_cancel' (suc n) k in
        let turned : pos (suc n) *ℤ neg_ℤ (pos q) ≡ neg_ℤ (pos (suc n * q)) = *ℤ-neg_ℤ (pos (suc n)) (pos q) in
        (neg_ℤ (pos q), omega (arith, ints))

-- a quotient is no greater in size than the number
pub abs-floor : (z : ℤ) (n : ℕ) → unsigned_abs (int_div_euclid z (pos (suc n))) ≤ unsigned_abs z
abs-floor (pos a) n = div-le_self a (suc n)
abs-floor (negsuc a) n = let h = div-le_self a (suc n) in omega (arith, h)

-- the same for a divisor that is above 0
pub ≤ℤ-floor_by : (z d v : ℤ) → pos 0 <ℤ d → ((d *ℤ v) ≤ℤ z) ↔ (v ≤ℤ int_div_euclid z d)
≤ℤ-floor_by z (pos zero) v h = absurd (omega (arith, ints))
≤ℤ-floor_by z (pos (suc n)) v h = ≤ℤ-floor z v n
≤ℤ-floor_by z (negsuc n) v h = absurd (omega (arith, ints))
