-- Coefficients, one counter after another.
use Rattle.std.proofs.Common.{◌≡◌, ◌≢◌, sym, subst, ℕ, ◌+◌, ◌<◌, ◌≤◌, ℤ, pos, List, length, get_or, get_or-set_same, get_or-set_other, below_more, slice_set, unsigned_abs, Result, Ok, Err, MatchResult, of_z, to_z, arith}
use Rattle.std.specs.Result.{IsErrAnd}
use Rattle.std.proofs.lemmas.List.{get_or_default}
use Rattle.std.proofs.lemmas.Int.{to_z-of_z, fits_signed_from_abs}
use Rattle.std.specs.Int.{w64}
use Rattle.affine.specs.Forms.{AllWithinSize}
use Rattle.line_fit.specs.Samples.{Sample, IsCoefficient}
use Rattle.line_fit.specs.Lines.{largest, AreCoefficients, IsLargeCoefficient}

-- what holds of each number before a place, and of a new number there, holds of each after the number is put there
pub below-set : (P : ℕ → ℤ → Type 0) (numbers : List ℤ) (i : ℕ) (v : ℤ) → i < length numbers → ((k : ℕ) → k < i → P k (get_or numbers k (pos 0))) → P i v → (k : ℕ) → k < i + 1 → P k (get_or (slice_set numbers i v) k (pos 0))
below-set P numbers i v within before here =
    below_more (λ k. P k (get_or (slice_set numbers i v) k (pos 0))) i
    (λ k h. let apart : k ≢ i = omega arith in subst (P k) (sym (get_or-set_other numbers i k v (pos 0) apart)) (before k h))
    (subst (P i) (sym (get_or-set_same numbers i v (pos 0) within)) here)

-- a small number is an i64
pub small-fits : (number : ℤ) → unsigned_abs number ≤ largest → to_z w64 (of_z w64 number) ≡ number
small-fits number h = to_z-of_z w64 number (fits_signed_from_abs w64 number (omega arith))

-- all coefficients were found, each small
pub coefficients-whole : (n : ℕ) (samples : List Sample) (numbers : List ℤ) (m : ℕ) → length numbers ≡ n → n ≤ m → ((k : ℕ) → k < m → IsCoefficient k samples (get_or numbers k (pos 0))) → ((k : ℕ) → k < m → unsigned_abs (get_or numbers k (pos 0)) ≤ largest) → AreCoefficients n samples numbers × AllWithinSize largest numbers
coefficients-whole n samples numbers m size all each small = (
  record { counters = size; each = λ k h. each k (omega arith) },
  λ k d h. subst (λ (v : ℤ). unsigned_abs v ≤ largest) (get_or_default numbers k (pos 0) d h) (small k (omega arith)),
)

-- a coefficient that is too large, behind small ones
pub large-found : (n : ℕ) (samples : List Sample) (numbers : List ℤ) (counter : ℕ) (large : ℤ) → counter < n → ((k : ℕ) → k < counter → IsCoefficient k samples (get_or numbers k (pos 0))) → ((k : ℕ) → k < counter → unsigned_abs (get_or numbers k (pos 0)) ≤ largest) → IsCoefficient counter samples large → largest < unsigned_abs large → IsLargeCoefficient n samples large
large-found n samples numbers counter large within each small is size =
    record { counter = counter; within = within; is = is; large = size; first = λ k h. record { coefficient = get_or numbers k (pos 0); is = each k h; small = small k h } }

-- an error that was handed on
pub error-as : {A : Type 0} (result : Result A ℤ) (P : A → Type 0) (Q : ℤ → Type 0) (large : ℤ) → IsErrAnd result (λ error. error ≡ large) → Q large → MatchResult result P Q
error-as (Ok a) P Q large h q = absurd h
error-as (Err e) P Q large h q = subst Q (sym h) q
