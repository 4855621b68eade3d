-- Values that are i64s, and trips between them.
use Rattle.std.proofs.Common.{◌≡◌, refl, sym, ap, subst, ◌∙◌, ℕ, zero, suc, ◌+◌, ◌*◌, ◌<◌, ◌≤◌, ◌^◌, max, ℤ, pos, negsuc, ◌+ℤ◌, ◌-ℤ◌, ◌*ℤ◌, ◌<ℤ◌, unsigned_abs, FitsSigned, Bool, true, false, Result, Ok, Err, int_div, int_rem, neg_ℤ, arith}
use Rattle.std.specs.Prelude.{if◌then◌else◌, int_lt, int_le, not}
use Rattle.std.specs.Int.{w64, div_ceil}
use Rattle.std.proofs.lemmas.Int.{ints, rem_below, fits_signed_from_abs}
use Rattle.std.proofs.Math.IntN.{pos-*ℤ-pos, negsuc-*ℤ-pos}
use Rattle.std.proofs.Math.Nat.{mul_comm}
use Rattle.std.proofs.lemmas.Grind.{div_ceil_times}
use Rattle.std.proofs.lemmas.Bool.Decides.{nat_tests}
use Rattle.nest_lang.specs.declared.tree.Op.{Op}
use Rattle.nest_lang.specs.declared.tree.Op.TheVariants.{Add, Sub, Mul, Div, Rem, Eq, Ne, Lt, Le, Gt, Ge}
use Rattle.nest_lang.specs.declared.tree.Trap.TheVariants.{Overflow, ZeroDivisor}
use Rattle.nest_lang.specs.Values.{is_i64, same, exact, truth, apply_of, negate_of, turn_value, IsTurn, steps_over, trip_count}
use Rattle.nest_lang.proofs.TripLaws.{trip_count-turns}

abbrev pub I64 : ℤ → Type 0
I64 z = FitsSigned w64 z

-- a value, where there is one, is an i64
abbrev pub IsOkI64 : {E : Type 0} → Result ℤ E → Type 0
IsOkI64 (Ok z) = I64 z
IsOkI64 (Err e) = Unit {0}

is_i64-fits : (z : ℤ) → is_i64 z ≡ true → I64 z
is_i64-fits (pos n) e = let h : n < 2 ^ 63 = grind (arith, nat_tests, e) in omega (arith, ints, h)
is_i64-fits (negsuc n) e = let h : n < 2 ^ 63 = grind (arith, nat_tests, e) in omega (arith, ints, h)

pub pos-fits : (n : ℕ) → n < 2 ^ 63 → I64 (pos n)
pos-fits n h = omega (arith, ints, h)

exact-fits : (z : ℤ) → IsOkI64 (exact z)
exact-fits z = at (is_i64 z) refl
  where
    at : (b : Bool) → is_i64 z ≡ b → IsOkI64 (if b then Ok z else Err Overflow)
    at true e = is_i64-fits z e
    at false e = tt

truth-fits : (b : Bool) → IsOkI64 (truth b)
truth-fits true = pos-fits 1 (omega arith)
truth-fits false = pos-fits 0 (omega arith)

-- a remainder is smaller than its divisor
rem-fits : (a b : ℤ) → I64 b → (b ≡ pos 0 → ⊥) → I64 (int_rem a b)
rem-fits a b fits other =
    let some : 0 < unsigned_abs b = (let o = other in positive b o) in
    let size : unsigned_abs b ≤ 2 ^ 63 = within b fits in
    fits_signed_from_abs w64 (int_rem a b) (let r = rem_below a b some in omega (arith, r, size))
  where
    positive : (z : ℤ) → (z ≡ pos 0 → ⊥) → 0 < unsigned_abs z
    positive (pos zero) o = absurd (o refl)
    positive (pos (suc n)) o = omega arith
    positive (negsuc n) o = omega arith

    within : (z : ℤ) → I64 z → unsigned_abs z ≤ 2 ^ 63
    within (pos n) h = let s = h.sfits in omega arith
    within (negsuc n) h = let s = h.sfits in omega arith

same-zero : (b : ℤ) → same b (pos 0) ≡ false → b ≡ pos 0 → ⊥
same-zero b h e = let z : same (pos 0) (pos 0) ≡ false = ap (λ (x : ℤ). same x (pos 0)) (sym e) ∙ h in cc

pub apply-fits : (op : Op) (a b : ℤ) → I64 b → IsOkI64 (apply_of op a b)
unfolding apply_of
apply-fits Add a b g = exact-fits (a +ℤ b)
apply-fits Sub a b g = exact-fits (a -ℤ b)
apply-fits Mul a b g = exact-fits (a *ℤ b)
apply-fits Div a b g = at (same b (pos 0))
  where
    at : (z : Bool) → IsOkI64 (if z then Err ZeroDivisor else exact (int_div a b))
    at true = tt
    at false = exact-fits (int_div a b)
apply-fits Rem a b g = at (same b (pos 0)) (is_i64 (int_div a b)) refl
  where
    at : (z y : Bool) → same b (pos 0) ≡ z → IsOkI64 (if z then Err ZeroDivisor else (if y then Ok (int_rem a b) else Err Overflow))
    at true y e = tt
    at false true e = rem-fits a b g (same-zero b e)
    at false false e = tt
apply-fits Eq a b g = truth-fits (same a b)
apply-fits Ne a b g = truth-fits (not (same a b))
apply-fits Lt a b g = truth-fits (int_lt a b)
apply-fits Le a b g = truth-fits (int_le a b)
apply-fits Gt a b g = truth-fits (int_lt b a)
apply-fits Ge a b g = truth-fits (int_le b a)

pub negate-fits : (a : ℤ) → IsOkI64 (negate_of a)
unfolding negate_of
negate-fits a = exact-fits (neg_ℤ a)

-- ---- the turns of a `for`

-- the values of its name lie between its bounds
pub turn-fits : (lower upper stride : ℤ) (t : ℕ) → I64 lower → I64 upper → (stride ≡ pos 0 → ⊥) → t < trip_count lower upper stride → I64 (turn_value lower stride t)
turn-fits lower upper stride t low high other h = at stride ((trip_count-turns lower upper stride t other).0 h)
  where
    at : (z : ℤ) → IsTurn lower upper z t → I64 (turn_value lower z t)
    at (pos k) is = rising (pos k *ℤ pos t) (pos-*ℤ-pos k t) is
      where
        rising : (m : ℤ) → m ≡ pos (k * t) → (lower +ℤ m) <ℤ upper → I64 (lower +ℤ m)
        rising m e is = omega (arith, ints, low, high, is, e)
    at (negsuc k) is = falling (negsuc k *ℤ pos t) (negsuc-*ℤ-pos k t) is
      where
        falling : (m : ℤ) → m ≡ neg_ℤ (pos (suc k * t)) → upper <ℤ (lower +ℤ m) → I64 (lower +ℤ m)
        falling m e is = omega (arith, ints, low, high, is, e)

-- the stride times their number stays within reach
steps-reach : (distance : ℤ) (size : ℕ) → 0 < size → size ≤ 2 ^ 63 → unsigned_abs distance ≤ 2 ^ 64 → size * steps_over distance size ≤ 2 ^ 65
steps-reach (pos d) size some small far =
    let room : div_ceil d size * size < d + size = (div_ceil_times d size some).1 in
    let turned : size * div_ceil d size ≡ div_ceil d size * size = mul_comm size (div_ceil d size) in
    let wide : d ≤ 2 ^ 64 = far in
    omega (arith, room, turned, wide, small)
steps-reach (negsuc n) size some small far = let e : size * 0 ≡ 0 = grind arith in omega (arith, e)

distance-small : (a b : ℤ) → I64 a → I64 b → unsigned_abs (a -ℤ b) ≤ 2 ^ 64
distance-small a b f g = omega (arith, ints, f, g)

-- a number of turns is a u64
times-least : (q size : ℕ) → 0 < size → q ≤ q * size
times-least q zero some = absurd (omega (arith, some))
times-least q (suc size) some = let e : q * suc size ≡ q + q * size = grind arith in omega (arith, e)

quotient-few : (q d size : ℕ) → 0 < size → q * size < d + size → q ≤ d
quotient-few zero d size some room = omega arith
quotient-few (suc q) d size some room =
    let e : suc q * size ≡ size + q * size = grind arith in
    let least : q ≤ q * size = times-least q size some in
    omega (arith, room, e, least)

steps-fit : (distance : ℤ) (size : ℕ) → 0 < size → unsigned_abs distance < 2 ^ 64 → steps_over distance size < 2 ^ 64
steps-fit (pos d) size some near =
    let few : div_ceil d size ≤ d = quotient-few (div_ceil d size) d size some (div_ceil_times d size some).1 in
    let wide : d < 2 ^ 64 = near in
    omega (arith, few, wide)
steps-fit (negsuc n) size some near = omega arith

distance-near : (a b : ℤ) → I64 a → I64 b → unsigned_abs (a -ℤ b) < 2 ^ 64
distance-near a b f g = omega (arith, ints, f, g)

pub trip-fits : (lower upper stride : ℤ) → I64 lower → I64 upper → (stride ≡ pos 0 → ⊥) → trip_count lower upper stride < 2 ^ 64
unfolding trip_count
trip-fits lower upper (pos zero) low high other = absurd (other refl)
trip-fits lower upper (pos (suc k)) low high other = steps-fit (upper -ℤ lower) (suc k) (omega arith) (distance-near upper lower high low)
trip-fits lower upper (negsuc k) low high other = steps-fit (lower -ℤ upper) (suc k) (omega arith) (distance-near lower upper low high)

pub trip-reach : (lower upper stride : ℤ) → I64 lower → I64 upper → I64 stride → (stride ≡ pos 0 → ⊥) → max 1 (unsigned_abs stride) * trip_count lower upper stride ≤ 2 ^ 65
unfolding trip_count
trip-reach lower upper (pos zero) low high fits other = absurd (other refl)
trip-reach lower upper (pos (suc k)) low high fits other =
    let size : max 1 (suc k) ≡ suc k = omega arith in
    let small : suc k ≤ 2 ^ 63 = (let s = fits.sfits in omega arith) in
    subst (λ (n : ℕ). n * steps_over (upper -ℤ lower) (suc k) ≤ 2 ^ 65) (sym size) (steps-reach (upper -ℤ lower) (suc k) (omega arith) small (distance-small upper lower high low))
trip-reach lower upper (negsuc k) low high fits other =
    let size : max 1 (suc k) ≡ suc k = omega arith in
    let small : suc k ≤ 2 ^ 63 = (let s = fits.sfits in omega arith) in
    subst (λ (n : ℕ). n * steps_over (lower -ℤ upper) (suc k) ≤ 2 ^ 65) (sym size) (steps-reach (lower -ℤ upper) (suc k) (omega arith) small (distance-small lower upper low high))
