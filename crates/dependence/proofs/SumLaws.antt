-- Sums of products with parts of lists.
use Rattle.std.proofs.Common.{◌≡◌, refl, sym, ap, ◌∙◌, ℕ, zero, suc, ◌<◌, ◌≤◌, ℤ, pos, ◌+ℤ◌, ◌-ℤ◌, ◌*ℤ◌, List, [], ◌∷◌, ◌++◌, map, take, length, get_or, arith}
use Rattle.std.proofs.Math.IntN.{zero-*ℤ, *ℤ-zero, +ℤ_idl, +ℤ_idr}
use Rattle.std.proofs.lemmas.Int.{ints}
use Rattle.affine.specs.Sums.{dot}
use Rattle.affine.specs.Forms.{Affine, value_at}
use Rattle.affine.specs.Matrices.{unit_row}
use Rattle.plain_lemmas.proofs.IntegerLaws.{+ℤ-*ℤ, *ℤ-+ℤ, one-*ℤ, -ℤ-*ℤ, neg_ℤ-*ℤ}
use Rattle.affine.proofs.SumLaws.{dot-nil, dot-map-mul}
use Rattle.domain.specs.Tables.{zero_form}
use Rattle.domain.proofs.PointLaws.{dot-zeros}
use Rattle.dependence.specs.Comparisons.{less}
use Rattle.dependence.specs.Systems.{shifted, counter_form}
use Rattle.dependence.specs.Legality.{plus, combined}

-- ---- points that are 0 from a place on

dot-zeros-point : (c x : List ℤ) → ((k : ℕ) → get_or x k (pos 0) ≡ pos 0) → dot c x ≡ pos 0
dot-zeros-point [] x h = refl
dot-zeros-point (c ∷ cs) [] h = refl
dot-zeros-point (c ∷ cs) (x ∷ xs) h = rw (h 0, *ℤ-zero c, dot-zeros-point cs xs (λ k. h (suc k))) refl

pub dot-take : (n : ℕ) (c x : List ℤ) → ((k : ℕ) → n ≤ k → get_or x k (pos 0) ≡ pos 0) → dot c (take n x) ≡ dot c x
dot-take zero c x h = dot-nil c ∙ sym (dot-zeros-point c x (λ k. h k (omega arith)))
dot-take (suc n) [] x h = refl
dot-take (suc n) (c ∷ cs) [] h = refl
dot-take (suc n) (c ∷ cs) (x ∷ xs) h = rw (dot-take n cs xs (λ k l. h (suc k) (omega arith))) refl

pub value_at-take : (n : ℕ) (form : Affine) (x : List ℤ) → ((k : ℕ) → n ≤ k → get_or x k (pos 0) ≡ pos 0) → value_at form (take n x) ≡ value_at form x
value_at-take n form x h = ap (λ (z : ℤ). z +ℤ form.cst) (dot-take n form.coef x h)

-- ---- rows

pub dot-less : (n : ℕ) (xs ys p : List ℤ) → length p ≤ n → dot (less n xs ys) p ≡ dot xs p -ℤ dot ys p
dot-less n xs ys [] h = rw (dot-nil (less n xs ys), dot-nil xs, dot-nil ys) (omega (arith, ints))
dot-less zero xs ys (z ∷ zs) h = absurd (omega arith)
dot-less (suc n) [] [] (z ∷ zs) h = rw (zero-*ℤ z, dot-less n [] [] zs (omega arith)) (omega (arith, ints))
dot-less (suc n) [] (y ∷ ys) (z ∷ zs) h = rw (neg_ℤ-*ℤ y z, dot-less n [] ys zs (omega arith)) (omega (arith, ints))
dot-less (suc n) (x ∷ xs) [] (z ∷ zs) h = rw (dot-less n xs [] zs (omega arith)) (omega (arith, ints))
dot-less (suc n) (x ∷ xs) (y ∷ ys) (z ∷ zs) h = rw (-ℤ-*ℤ x y z, dot-less n xs ys zs (omega arith)) (omega (arith, ints))

pub length-less : (n : ℕ) (xs ys : List ℤ) → length (less n xs ys) ≡ n
length-less zero xs ys = refl
length-less (suc n) [] [] = ap suc (length-less n [] [])
length-less (suc n) [] (y ∷ ys) = ap suc (length-less n [] ys)
length-less (suc n) (x ∷ xs) [] = ap suc (length-less n xs [])
length-less (suc n) (x ∷ xs) (y ∷ ys) = ap suc (length-less n xs ys)

pub dot-append : (xs ys p q : List ℤ) → length xs ≡ length p → dot (xs ++ ys) (p ++ q) ≡ dot xs p +ℤ dot ys q
dot-append [] ys [] q h = omega (arith, ints)
dot-append [] ys (z ∷ p) q h = absurd (omega arith)
dot-append (x ∷ xs) ys [] q h = absurd (omega arith)
dot-append (x ∷ xs) ys (z ∷ p) q h = rw (dot-append xs ys p q (omega arith)) (omega (arith, ints))

-- ---- forms

pub value-zero_form : (n : ℕ) (p : List ℤ) → value_at (zero_form n) p ≡ pos 0
value-zero_form n p = rw (dot-zeros n p) refl

dot-plus : (xs ys p : List ℤ) → dot (plus xs ys) p ≡ dot xs p +ℤ dot ys p
dot-plus [] ys p = omega (arith, ints)
dot-plus (x ∷ xs) [] p = omega (arith, ints)
dot-plus (x ∷ xs) (y ∷ ys) [] = omega (arith, ints)
dot-plus (x ∷ xs) (y ∷ ys) (z ∷ zs) = rw (+ℤ-*ℤ x y z, dot-plus xs ys zs) (omega (arith, ints))

pub value-combined : (n : ℕ) (ms : List ℤ) (fs : List Affine) (p : List ℤ) → value_at (combined n ms fs) p ≡ dot ms (map (λ f. value_at f p) fs)
value-combined n [] fs p = value-zero_form n p
value-combined n (m ∷ ms) [] p = value-zero_form n p
value-combined n (m ∷ ms) (f ∷ fs) p =
    let rest = value-combined n ms fs p in
    rw (dot-plus (map (λ c. m *ℤ c) f.coef) (combined n ms fs).coef p, dot-map-mul m f.coef p, *ℤ-+ℤ m (dot f.coef p) f.cst, ← rest) (omega (arith, ints))

pub value-shifted : (n : ℤ) (f : Affine) (p : List ℤ) → value_at (shifted n f) p ≡ value_at f p +ℤ n
value-shifted n f p = omega (arith, ints)

dot-unit_row : (n place : ℕ) (ys : List ℤ) → place < n → dot (unit_row n place) ys ≡ get_or ys place (pos 0)
dot-unit_row zero place ys h = absurd (omega arith)
dot-unit_row (suc n) zero [] h = refl
dot-unit_row (suc n) zero (y ∷ ys) h = rw (one-*ℤ y, dot-zeros n ys, +ℤ_idr y) refl
dot-unit_row (suc n) (suc place) [] h = refl
dot-unit_row (suc n) (suc place) (y ∷ ys) h = rw (zero-*ℤ y, dot-unit_row n place ys (omega arith), +ℤ_idl) refl

pub value-counter_form : (n k : ℕ) (p : List ℤ) → k < n → value_at (counter_form n k) p ≡ get_or p k (pos 0)
value-counter_form n k p l = rw (dot-unit_row n k p l) (omega (arith, ints))
