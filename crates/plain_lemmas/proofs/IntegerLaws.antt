-- Signed whole numbers: sums of products, sizes, and tests of order.
use Rattle.std.proofs.Common.{◌≡◌, ◌≢◌, refl, ◌∙◌, ℕ, zero, suc, ◌≤◌, ◌+◌, ◌*◌, ℤ, pos, negsuc, ◌+ℤ◌, ◌-ℤ◌, ◌*ℤ◌, neg_ℤ, ◌≤ℤ◌, ◌<ℤ◌, int_lt, true, false, unsigned_abs, FitsSigned, arith}
use Rattle.std.specs.Int.{Width}
use Rattle.std.specs.Ordering.{int_eq}
use Rattle.std.proofs.Math.IntN.{suc_ℤ, pred_ℤ, suc_ℤ-+ℤ, pred_ℤ-+ℤ, suc_ℤ-*ℤ, pred_ℤ-*ℤ, +ℤ_idl, zero-*ℤ, one, *ℤ-one, *ℤ_comm, -ℤ-+ℤ_cancel, +ℤ_invr, *ℤ-zero}
use Rattle.std.proofs.Math.Nat.{mul-le-mul}
use Rattle.std.proofs.lemmas.Bool.Decides.{Decides-int_eq}
use Rattle.std.proofs.lemmas.Int.{ints, unsigned_abs-mul}

-- ---- a product of a sum, on either side

+ℤ-*ℤ_suc : (a b c : ℤ) → (a +ℤ b) *ℤ c ≡ a *ℤ c +ℤ b *ℤ c → (suc_ℤ a +ℤ b) *ℤ c ≡ suc_ℤ a *ℤ c +ℤ b *ℤ c
+ℤ-*ℤ_suc a b c e = rw (suc_ℤ-+ℤ a b, suc_ℤ-*ℤ (a +ℤ b) c, suc_ℤ-*ℤ a c, e) (omega (arith, ints))

+ℤ-*ℤ_pred : (a b c : ℤ) → (a +ℤ b) *ℤ c ≡ a *ℤ c +ℤ b *ℤ c → (pred_ℤ a +ℤ b) *ℤ c ≡ pred_ℤ a *ℤ c +ℤ b *ℤ c
+ℤ-*ℤ_pred a b c e = rw (pred_ℤ-+ℤ a b, pred_ℤ-*ℤ (a +ℤ b) c, pred_ℤ-*ℤ a c, e) (omega (arith, ints))

+ℤ-*ℤ_zero : (b c : ℤ) → (pos 0 +ℤ b) *ℤ c ≡ pos 0 *ℤ c +ℤ b *ℤ c
+ℤ-*ℤ_zero b c = rw (+ℤ_idl b, zero-*ℤ c, +ℤ_idl (b *ℤ c)) refl

pub +ℤ-*ℤ : (a b c : ℤ) → (a +ℤ b) *ℤ c ≡ a *ℤ c +ℤ b *ℤ c
+ℤ-*ℤ (pos zero) b c = +ℤ-*ℤ_zero b c
+ℤ-*ℤ (pos (suc n)) b c = +ℤ-*ℤ_suc (pos n) b c (+ℤ-*ℤ (pos n) b c)
+ℤ-*ℤ (negsuc zero) b c = +ℤ-*ℤ_pred (pos 0) b c (+ℤ-*ℤ_zero b c)
+ℤ-*ℤ (negsuc (suc n)) b c = +ℤ-*ℤ_pred (negsuc n) b c (+ℤ-*ℤ (negsuc n) b c)

pub *ℤ-+ℤ : (a b c : ℤ) → a *ℤ (b +ℤ c) ≡ a *ℤ b +ℤ a *ℤ c
*ℤ-+ℤ a b c = rw (*ℤ_comm a (b +ℤ c), *ℤ_comm a b, *ℤ_comm a c) (+ℤ-*ℤ b c a)

-- ---- a product of three, and of one factor 1

*ℤ_assoc_suc : (a b c : ℤ) → (a *ℤ b) *ℤ c ≡ a *ℤ (b *ℤ c) → (suc_ℤ a *ℤ b) *ℤ c ≡ suc_ℤ a *ℤ (b *ℤ c)
*ℤ_assoc_suc a b c e = rw (suc_ℤ-*ℤ a b, suc_ℤ-*ℤ a (b *ℤ c), +ℤ-*ℤ (a *ℤ b) b c, e) refl

*ℤ_assoc_pred : (a b c : ℤ) → (a *ℤ b) *ℤ c ≡ a *ℤ (b *ℤ c) → (pred_ℤ a *ℤ b) *ℤ c ≡ pred_ℤ a *ℤ (b *ℤ c)
*ℤ_assoc_pred a b c e =
    rw (pred_ℤ-*ℤ a b, pred_ℤ-*ℤ a (b *ℤ c)) (apart (a *ℤ b) b c (a *ℤ (b *ℤ c)) e)
  where
    apart : (m b c r : ℤ) → m *ℤ c ≡ r → (m -ℤ b) *ℤ c ≡ r -ℤ b *ℤ c
    apart m b c r e = let sum : m *ℤ c ≡ (m -ℤ b) *ℤ c +ℤ b *ℤ c = rw -ℤ-+ℤ_cancel at (+ℤ-*ℤ (m -ℤ b) b c) in omega (arith, ints)

*ℤ_assoc_zero : (b c : ℤ) → (pos 0 *ℤ b) *ℤ c ≡ pos 0 *ℤ (b *ℤ c)
*ℤ_assoc_zero b c = rw (zero-*ℤ b, zero-*ℤ c, zero-*ℤ (b *ℤ c)) refl

pub *ℤ_assoc : (a b c : ℤ) → (a *ℤ b) *ℤ c ≡ a *ℤ (b *ℤ c)
*ℤ_assoc (pos zero) b c = *ℤ_assoc_zero b c
*ℤ_assoc (pos (suc n)) b c = *ℤ_assoc_suc (pos n) b c (*ℤ_assoc (pos n) b c)
*ℤ_assoc (negsuc zero) b c = *ℤ_assoc_pred (pos 0) b c (*ℤ_assoc_zero b c)
*ℤ_assoc (negsuc (suc n)) b c = *ℤ_assoc_pred (negsuc n) b c (*ℤ_assoc (negsuc n) b c)

pub one-*ℤ : (x : ℤ) → pos 1 *ℤ x ≡ x
unfolding one
one-*ℤ x = *ℤ_comm (pos 1) x ∙ *ℤ-one x

-- ---- products and signs

pub *ℤ-neg_ℤ : (a b : ℤ) → a *ℤ neg_ℤ b ≡ neg_ℤ (a *ℤ b)
*ℤ-neg_ℤ a b = let sum : a *ℤ pos 0 ≡ a *ℤ b +ℤ a *ℤ neg_ℤ b = rw +ℤ_invr at (*ℤ-+ℤ a b (neg_ℤ b)) in let z = *ℤ-zero a in omega (arith, ints)

pub neg_ℤ-*ℤ : (a b : ℤ) → neg_ℤ a *ℤ b ≡ neg_ℤ (a *ℤ b)
neg_ℤ-*ℤ a b = rw (*ℤ_comm (neg_ℤ a) b, *ℤ_comm a b) (*ℤ-neg_ℤ b a)

pub -ℤ-*ℤ : (a b c : ℤ) → (a -ℤ b) *ℤ c ≡ a *ℤ c -ℤ b *ℤ c
-ℤ-*ℤ a b c = let sum : a *ℤ c ≡ (a -ℤ b) *ℤ c +ℤ b *ℤ c = rw -ℤ-+ℤ_cancel at (+ℤ-*ℤ (a -ℤ b) b c) in omega (arith, ints)

pub *ℤ-non_negative : (a b : ℤ) → pos 0 ≤ℤ a → pos 0 ≤ℤ b → pos 0 ≤ℤ (a *ℤ b)
*ℤ-non_negative (pos m) (pos n) h k = omega (arith, ints)
*ℤ-non_negative (pos m) (negsuc n) h k = absurd (omega (arith, ints))
*ℤ-non_negative (negsuc m) b h k = absurd (omega (arith, ints))

pub *ℤ-≤ℤ : (d a b : ℤ) → pos 0 ≤ℤ d → a ≤ℤ b → (d *ℤ a) ≤ℤ (d *ℤ b)
*ℤ-≤ℤ d a b p h =
    let e : a +ℤ (b -ℤ a) ≡ b = omega (arith, ints) in
    let sum : d *ℤ b ≡ d *ℤ a +ℤ d *ℤ (b -ℤ a) = rw e at (*ℤ-+ℤ d a (b -ℤ a)) in
    let more = *ℤ-non_negative d (b -ℤ a) p (omega (arith, ints)) in
    omega (arith, ints)

-- ---- sizes

pub unsigned_abs-add : (a b : ℤ) → unsigned_abs (a +ℤ b) ≤ unsigned_abs a + unsigned_abs b
unsigned_abs-add a b = grind (arith, ints)

pub unsigned_abs-mul-le : (a b : ℤ) (m n : ℕ) → unsigned_abs a ≤ m → unsigned_abs b ≤ n → unsigned_abs (a *ℤ b) ≤ m * n
unsigned_abs-mul-le a b m n h k = rw (unsigned_abs-mul a b) (mul-le-mul h k)

-- a number between two that fit a width fits it
pub FitsSigned-between : (w : Width) (a z b : ℤ) → FitsSigned w a → FitsSigned w b → a ≤ℤ z → z ≤ℤ b → FitsSigned w z
FitsSigned-between w a z b f g l h = grind (arith, ints)

pub same-pos : (m n : ℕ) → pos m ≡ pos n → m ≡ n
same-pos m n e = cc

-- ---- tests of order, named as std names those of natural numbers

pub int_lt-true : (a b : ℤ) → int_lt a b ≡ true → a <ℤ b
int_lt-true a b h = grind (arith, ints)

pub int_lt-false : (a b : ℤ) → int_lt a b ≡ false → b ≤ℤ a
int_lt-false a b h = grind (arith, ints)

pub lt-int_lt : (a b : ℤ) → a <ℤ b → int_lt a b ≡ true
lt-int_lt a b h = grind (arith, ints)

pub le-int_lt : (a b : ℤ) → b ≤ℤ a → int_lt a b ≡ false
le-int_lt a b h = grind (arith, ints)

pub int_eq-true : (a b : ℤ) → int_eq a b ≡ true → a ≡ b
int_eq-true a b h = (Decides-int_eq a b).0 h

pub int_eq-false : (a b : ℤ) → int_eq a b ≡ false → a ≢ b
int_eq-false a b h same = let equal : int_eq a b ≡ true = (Decides-int_eq a b).1 same in grind arith
