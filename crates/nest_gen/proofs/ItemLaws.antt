-- What a generated ramp keeps.
use Rattle.std.proofs.Common.{◌≡◌, ◌≢◌, ℕ, zero, suc, ◌+◌, ◌*◌, ◌<◌, ◌≤◌, ◌^◌, pos, true, refl, nat_lt, ◌&&◌, arith}
use Rattle.std.proofs.Math.Nat.{mul-le-mul}
use Rattle.nest_lang.specs.Values.{is_i64}
use Rattle.nest_grammar.specs.Contents.{ramp_fits}

pub one-is-not-zero : ◌≢◌ {A = ℕ} 1 0
one-is-not-zero e = absurd (omega (arith, e))

pub two-is-not-zero : ◌≢◌ {A = ℕ} 2 0
two-is-not-zero e = absurd (omega (arith, e))

lt-true : (a n : ℕ) → a < n → nat_lt a n ≡ true
lt-true a n lt = grind (arith, lt)

both-fit : (a k words value : ℕ) → a < words → value < 2 ^ 63 → (nat_lt a words && is_i64 (pos value)) ≡ true
both-fit a k words value lt small = let one = lt-true a words lt in let other = lt-true value (2 ^ 63) small in rw (one, other) refl

pub ramp-in : (words first count stride a g : ℕ) → ((k : ℕ) → k < count → first + stride * k < words) → a + g * count < 2 ^ 63 → ramp_fits words first count stride (pos a) (pos g) ≡ true
ramp-in words first zero stride a g h small = refl
ramp-in words first (suc k) stride a g h small = both-fit (first + stride * k) k words (a + g * k) (h k (omega arith)) (omega (arith, small))

pub square-small : (m : ℕ) → m ≤ 258 → m * m ≤ 66564
square-small m le = mul-le-mul le le
