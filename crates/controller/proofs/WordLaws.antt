-- The words that a seat shows, one after another.
use Rattle.std.proofs.Common.{◌≡◌, ap, ℕ, zero, suc, ◌+◌, ◌<◌, ℤ, List, [], ◌∷◌, ◌++◌, length, take, arith}
use Rattle.std.specs.Prelude.{slice_index}
use Rattle.std.specs.Int.{w64, cast_signed}
use Rattle.shared_words.specs.Memories.{signed}

-- one more of them
pub words-more : (bits : List ℕ) (a : ℕ) (v : ℤ) → a < length bits → v ≡ cast_signed w64 (slice_index bits a) → take a (signed bits) ++ v ∷ [] ≡ take (a + 1) (signed bits)
words-more [] a v few is = absurd (omega (arith, few))
words-more (b ∷ bs) zero v few is = ap (λ (x : ℤ). x ∷ []) is
words-more (b ∷ bs) (suc n) v few is =
    let next : suc n + 1 ≡ suc (n + 1) = omega arith in
    rw next (ap (λ (xs : List ℤ). cast_signed w64 b ∷ xs) (words-more bs n v (omega (arith, few)) is))
