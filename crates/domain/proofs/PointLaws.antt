-- Points that are cut: the first numbers, and zeros in place of the others.
use Rattle.std.proofs.Common.{◌≡◌, refl, sym, ap, ap₂, ◌∙◌, subst, ℕ, zero, suc, ◌<◌, ◌≤◌, ◌+◌, ℤ, pos, ◌+ℤ◌, List, [], ◌∷◌, Option, Some, None, length, get_or, set, replicate, ◌⊎◌, inl, inr, arith}
use Rattle.std.proofs.lemmas.Bool.{cases_lt}
use Rattle.std.proofs.Math.IntN.{zero-*ℤ, *ℤ-zero}
use Rattle.affine.specs.Sums.{dot}
use Rattle.affine.specs.Forms.{Affine, value_at}
use Rattle.domain.specs.Tables.{Table, depth, level_at, form_or_zero, cut, trip_form, trip}

pub length-cut : (n : ℕ) (xs : List ℤ) → length (cut n xs) ≡ length xs
length-cut n [] = refl
length-cut zero (x ∷ xs) = ap suc (length-cut zero xs)
length-cut (suc n) (x ∷ xs) = ap suc (length-cut n xs)

pub cut-before : (n : ℕ) (xs : List ℤ) (k : ℕ) → k < n → get_or (cut n xs) k (pos 0) ≡ get_or xs k (pos 0)
cut-before n [] k l = refl
cut-before zero (x ∷ xs) k l = absurd (omega arith)
cut-before (suc n) (x ∷ xs) zero l = refl
cut-before (suc n) (x ∷ xs) (suc k) l = cut-before n xs k (omega arith)

pub cut-after : (n : ℕ) (xs : List ℤ) (k : ℕ) → n ≤ k → get_or (cut n xs) k (pos 0) ≡ pos 0
cut-after n [] k l = refl
cut-after zero (x ∷ xs) zero l = refl
cut-after zero (x ∷ xs) (suc k) l = cut-after zero xs k (omega arith)
cut-after (suc n) (x ∷ xs) zero l = absurd (omega arith)
cut-after (suc n) (x ∷ xs) (suc k) l = cut-after n xs k (omega arith)

pub cut-set-after : (n i : ℕ) (v : ℤ) (xs : List ℤ) → n ≤ i → cut n (set xs i v) ≡ cut n xs
cut-set-after n i v [] l = refl
cut-set-after zero zero v (x ∷ xs) l = refl
cut-set-after zero (suc i) v (x ∷ xs) l = ap (λ (zs : List ℤ). pos 0 ∷ zs) (cut-set-after zero i v xs (omega arith))
cut-set-after (suc n) zero v (x ∷ xs) l = absurd (omega arith)
cut-set-after (suc n) (suc i) v (x ∷ xs) l = ap (λ (zs : List ℤ). x ∷ zs) (cut-set-after n i v xs (omega arith))

-- a list that is 0 from a place on is its own cut
pub cut-same : (n : ℕ) (xs : List ℤ) → ((k : ℕ) → n ≤ k → k < length xs → get_or xs k (pos 0) ≡ pos 0) → cut n xs ≡ xs
cut-same n [] h = refl
cut-same zero (x ∷ xs) h = ap₂ (λ (z : ℤ) (zs : List ℤ). z ∷ zs) (sym (h 0 (omega arith) (omega arith))) (cut-same zero xs (λ k from to. h (suc k) (omega arith) (omega arith)))
cut-same (suc n) (x ∷ xs) h = ap (λ (zs : List ℤ). x ∷ zs) (cut-same n xs (λ k from to. h (suc k) (omega arith) (omega arith)))

set-zero : (xs : List ℤ) (i k : ℕ) → get_or xs k (pos 0) ≡ pos 0 → get_or (set xs i (pos 0)) k (pos 0) ≡ pos 0
set-zero [] i k e = e
set-zero (x ∷ xs) zero zero e = refl
set-zero (x ∷ xs) zero (suc k) e = e
set-zero (x ∷ xs) (suc i) zero e = e
set-zero (x ∷ xs) (suc i) (suc k) e = set-zero xs i k e

set-here : (xs : List ℤ) (i : ℕ) → get_or (set xs i (pos 0)) i (pos 0) ≡ pos 0
set-here [] i = refl
set-here (x ∷ xs) zero = refl
set-here (x ∷ xs) (suc i) = set-here xs i

-- one more 0
pub zeros-more : (n i : ℕ) (xs : List ℤ) → ((k : ℕ) → n ≤ k → k < i → get_or xs k (pos 0) ≡ pos 0) → (k : ℕ) → n ≤ k → k < i + 1 → get_or (set xs i (pos 0)) k (pos 0) ≡ pos 0
zeros-more n i xs h k from to = at (cases_lt k i)
  where
    at : (k < i) ⊎ (i ≤ k) → get_or (set xs i (pos 0)) k (pos 0) ≡ pos 0
    at (inl l) = set-zero xs i k (h k from l)
    at (inr l) = let e : i ≡ k = omega arith in subst (λ j. get_or (set xs i (pos 0)) j (pos 0) ≡ pos 0) e (set-here xs i)

-- ---- forms over the first counters alone

dot-zero : (xs ys : List ℤ) → dot (cut zero xs) ys ≡ pos 0
dot-zero [] ys = refl
dot-zero (x ∷ xs) [] = refl
dot-zero (x ∷ xs) (y ∷ ys) = rw (zero-*ℤ y, dot-zero xs ys) refl

dot-cut-zero : (xs ys : List ℤ) → dot xs (cut zero ys) ≡ pos 0
dot-cut-zero [] ys = refl
dot-cut-zero (x ∷ xs) [] = refl
dot-cut-zero (x ∷ xs) (y ∷ ys) = rw (*ℤ-zero x, dot-cut-zero xs ys) refl

-- the first coefficients at a point are all coefficients at its first numbers
pub dot-cut : (n : ℕ) (xs ys : List ℤ) → dot (cut n xs) ys ≡ dot xs (cut n ys)
dot-cut zero xs ys = dot-zero xs ys ∙ sym (dot-cut-zero xs ys)
dot-cut (suc n) [] ys = refl
dot-cut (suc n) (x ∷ xs) [] = refl
dot-cut (suc n) (x ∷ xs) (y ∷ ys) = rw (dot-cut n xs ys) refl

pub dot-zeros : (n : ℕ) (ys : List ℤ) → dot (replicate n (pos 0)) ys ≡ pos 0
dot-zeros zero ys = refl
dot-zeros (suc n) [] = refl
dot-zeros (suc n) (y ∷ ys) = rw (zero-*ℤ y, dot-zeros n ys) refl

cut-cut : (n k : ℕ) (xs : List ℤ) → n ≤ k → cut n (cut k xs) ≡ cut n xs
cut-cut n k [] l = refl
cut-cut zero zero (x ∷ xs) l = ap (λ (zs : List ℤ). pos 0 ∷ zs) (cut-cut zero zero xs l)
cut-cut zero (suc k) (x ∷ xs) l = ap (λ (zs : List ℤ). pos 0 ∷ zs) (cut-cut zero k xs (omega arith))
cut-cut (suc n) zero (x ∷ xs) l = absurd (omega arith)
cut-cut (suc n) (suc k) (x ∷ xs) l = ap (λ (zs : List ℤ). x ∷ zs) (cut-cut n k xs (omega arith))

-- the trip of a loop by its form, at the counters around it
pub trip-some : (t : Table) (k : ℕ) (form : Affine) (at : List ℤ) → (level_at t k).trip ≡ Some form → trip t k at ≡ value_at form (cut k at)
unfolding trip
trip-some t k form at e =
    ap (λ (f : Option Affine). dot (cut k (form_or_zero (depth t) f).coef) at +ℤ (form_or_zero (depth t) f).cst) e
    ∙ ap (λ (z : ℤ). z +ℤ form.cst) (dot-cut k form.coef at)

pub trip-none : (t : Table) (k : ℕ) (at : List ℤ) → (level_at t k).trip ≡ None → trip t k at ≡ pos 0
unfolding trip
trip-none t k at e =
    ap (λ (f : Option Affine). dot (cut k (form_or_zero (depth t) f).coef) at +ℤ (form_or_zero (depth t) f).cst) e
    ∙ ap (λ (z : ℤ). z +ℤ pos 0) (dot-cut k (replicate (depth t) (pos 0)) at ∙ dot-zeros (depth t) (cut k at))

-- a trip depends on the counters around its loop alone
pub trip-cut : (t : Table) (k n : ℕ) (at : List ℤ) → k ≤ n → trip t k (cut n at) ≡ trip t k at
unfolding trip
trip-cut t k n at l =
    ap (λ (z : ℤ). z +ℤ (trip_form t k).cst)
    (dot-cut k (form_or_zero (depth t) (level_at t k).trip).coef (cut n at) ∙ ap (dot (form_or_zero (depth t) (level_at t k).trip).coef) (cut-cut k n at l) ∙ sym (dot-cut k (form_or_zero (depth t) (level_at t k).trip).coef at))
