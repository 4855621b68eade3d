-- Turns of a `for`: turn t belongs to it exactly where t is below their number.
use Rattle.std.proofs.Common.{◌≡◌, ℕ, zero, suc, ◌+◌, ◌*◌, ◌<◌, ◌≤◌, ℤ, pos, negsuc, ◌+ℤ◌, ◌-ℤ◌, ◌*ℤ◌, ◌<ℤ◌, ◌≤ℤ◌, refl, sym, subst, arith, nat_abs, unsigned_abs}
use Rattle.std.specs.Prelude.{◌↔◌}
use Rattle.std.proofs.lemmas.Int.{ints}
use Rattle.std.proofs.lemmas.Grind.{div_ceil_times}
use Rattle.std.proofs.Math.IntN.{pos-*ℤ-pos, negsuc-*ℤ-pos}
use Rattle.std.proofs.Math.Nat.{mul-le-mul_right, lt_of_mul-lt-mul_right, lt_of_lt_of_le, mul_comm}
use Rattle.std.specs.Int.{div_ceil}
use Rattle.nest_lang.specs.Values.{IsTurn, steps_over, trip_count}

-- t steps of a size stay below a distance exactly where t is below the quotient rounded up
below-ceil-to : (d k t : ℕ) → 0 < k → t < div_ceil d k → t * k < d
below-ceil-to d k t some h =
    let c : ℕ = div_ceil d k in
    let room : c * k < d + k = (div_ceil_times d k some).1 in
    let step : (t + 1) * k ≤ c * k = mul-le-mul_right k (omega arith) in
    let split : (t + 1) * k ≡ t * k + k = grind arith in
    omega arith

below-ceil-from : (d k t : ℕ) → 0 < k → t * k < d → t < div_ceil d k
below-ceil-from d k t some h =
    let c : ℕ = div_ceil d k in
    let all : d ≤ c * k = (div_ceil_times d k some).0 in
    let less : t * k < c * k = lt_of_lt_of_le h all in
    lt_of_mul-lt-mul_right k less

-- the distance that t steps cover
turns-rising : (distance : ℤ) (lower upper : ℤ) (k t : ℕ) → 0 < k → distance ≡ upper -ℤ lower → (t < steps_over distance k) ↔ ((lower +ℤ pos k *ℤ pos t) <ℤ upper)
turns-rising (pos d) lower upper k t some e =
    let there : t < div_ceil d k → (lower +ℤ pos k *ℤ pos t) <ℤ upper =
    λ h. let m : t * k < d = below-ceil-to d k t some h in
    let c : k * t ≡ t * k = mul_comm k t in
    rw pos-*ℤ-pos (omega (arith, ints)) in
    let back : (lower +ℤ pos k *ℤ pos t) <ℤ upper → t < div_ceil d k =
    λ h. let p : (lower +ℤ pos (k * t)) <ℤ upper = rw pos-*ℤ-pos at h in
    let c : k * t ≡ t * k = mul_comm k t in
    below-ceil-from d k t some (omega (arith, ints)) in
    (there, back)
turns-rising (negsuc n) lower upper k t some e =
    let there : t < 0 → (lower +ℤ pos k *ℤ pos t) <ℤ upper = λ h. absurd (omega arith) in
    let back : (lower +ℤ pos k *ℤ pos t) <ℤ upper → t < 0 =
    λ h. let p : (lower +ℤ pos (k * t)) <ℤ upper = rw pos-*ℤ-pos at h in absurd (omega (arith, ints)) in
    (there, back)

turns-falling : (distance : ℤ) (lower upper : ℤ) (k t : ℕ) → distance ≡ lower -ℤ upper → (t < steps_over distance (suc k)) ↔ (upper <ℤ (lower +ℤ negsuc k *ℤ pos t))
turns-falling (pos d) lower upper k t e =
    let some : 0 < suc k = omega arith in
    let there : t < div_ceil d (suc k) → upper <ℤ (lower +ℤ negsuc k *ℤ pos t) =
    λ h. let m : t * suc k < d = below-ceil-to d (suc k) t some h in
    let c : suc k * t ≡ t * suc k = mul_comm (suc k) t in
    rw negsuc-*ℤ-pos (omega (arith, ints)) in
    let back : upper <ℤ (lower +ℤ negsuc k *ℤ pos t) → t < div_ceil d (suc k) =
    λ h. let p = rw negsuc-*ℤ-pos at h in
    let c : suc k * t ≡ t * suc k = mul_comm (suc k) t in
    below-ceil-from d (suc k) t some (omega (arith, ints)) in
    (there, back)
turns-falling (negsuc n) lower upper k t e =
    let there : t < 0 → upper <ℤ (lower +ℤ negsuc k *ℤ pos t) = λ h. absurd (omega arith) in
    let back : upper <ℤ (lower +ℤ negsuc k *ℤ pos t) → t < 0 =
    λ h. let p = rw negsuc-*ℤ-pos at h in absurd (omega (arith, ints)) in
    (there, back)

-- turn t belongs to a `for` exactly where t is below the number of its turns
pub trip_count-turns : (lower upper stride : ℤ) (t : ℕ) → (stride ≡ pos 0 → ⊥) → (t < trip_count lower upper stride) ↔ IsTurn lower upper stride t
unfolding trip_count
trip_count-turns lower upper (pos zero) t other = absurd (other refl)
trip_count-turns lower upper (pos (suc k)) t other = turns-rising (upper -ℤ lower) lower upper (suc k) t (omega arith) refl
trip_count-turns lower upper (negsuc k) t other = turns-falling (lower -ℤ upper) lower upper k t refl

-- over a distance that is above 0, the steps are the quotient rounded up
pub steps_over-abs : (z : ℤ) (d size r : ℕ) → pos 0 <ℤ z → d ≡ nat_abs z → r ≡ div_ceil d size → r ≡ steps_over z size
steps_over-abs (pos n) d size r h e q = rw e at q
steps_over-abs (negsuc n) d size r h e q = absurd (omega (arith, ints))

pub steps_over-none : (z : ℤ) (size : ℕ) → z ≤ℤ pos 0 → 0 < size → 0 ≡ steps_over z size
steps_over-none (pos zero) size h some = grind arith
steps_over-none (pos (suc n)) size h some = absurd (omega (arith, ints))
steps_over-none (negsuc n) size h some = refl

-- the number of turns, from the size of the stride
pub trip_count-rising : (lower upper stride : ℤ) (r : ℕ) → pos 0 <ℤ stride → r ≡ steps_over (upper -ℤ lower) (unsigned_abs stride) → r ≡ trip_count lower upper stride
unfolding trip_count
trip_count-rising lower upper (pos k) r h e = e
trip_count-rising lower upper (negsuc k) r h e = absurd (omega (arith, ints))

pub trip_count-falling : (lower upper stride : ℤ) (r : ℕ) → stride ≤ℤ pos 0 → (stride ≡ pos 0 → ⊥) → r ≡ steps_over (lower -ℤ upper) (unsigned_abs stride) → r ≡ trip_count lower upper stride
unfolding trip_count
trip_count-falling lower upper (pos zero) r h other e = absurd (other refl)
trip_count-falling lower upper (pos (suc k)) r h other e = absurd (omega (arith, ints))
trip_count-falling lower upper (negsuc k) r h other e = e

pub turns-counted : (lower upper stride : ℤ) (r : ℕ) → (stride ≡ pos 0 → ⊥) → r ≡ trip_count lower upper stride → (t : ℕ) → (t < r) ↔ IsTurn lower upper stride t
turns-counted lower upper stride r other e t =
    let P : ℕ → Type 0 = λ n. (t < n) ↔ IsTurn lower upper stride t in
    subst P (sym e) (trip_count-turns lower upper stride t other)
