-- The greatest common divisor.
use Rattle.std.specs.Prelude.{◌≡◌, ℕ, ℤ, zero, suc, ◌%◌, List, [], ◌∷◌, unsigned_abs, refl}
use Rattle.std.specs.Int.{◌∣◌}
use Rattle.std.specs.List.{All}

-- Euclid's rule, for at most so many steps
abbrev pub gcd_within : ℕ → ℕ → ℕ → ℕ
gcd_within steps a zero = a
gcd_within zero a (suc b) = a
gcd_within (suc steps) a (suc b) = gcd_within steps (suc b) (a % suc b)

-- the greatest common divisor of two numbers: each step makes the second smaller, so that b steps are enough
unfoldable pub gcd : ℕ → ℕ → ℕ
gcd a b = gcd_within b a b

-- the greatest common divisor of the sizes of these numbers; 0 where they are all 0
abbrev pub common_divisor : List ℤ → ℕ
common_divisor [] = 0
common_divisor (x ∷ xs) = gcd (unsigned_abs x) (common_divisor xs)

-- g divides each of these numbers, and each d that divides them all divides g
abbrev pub IsGreatestDivisor : List ℤ → ℕ → Type 0
IsGreatestDivisor xs g = All (λ x. g ∣ unsigned_abs x) xs × ((d : ℕ) → All (λ x. d ∣ unsigned_abs x) xs → d ∣ g)

gcd-12-18 : gcd 12 18 ≡ 6
unfolding gcd
gcd-12-18 = refl

gcd-large : gcd 4611686018427387905 1 ≡ 1
unfolding gcd
gcd-large = refl
