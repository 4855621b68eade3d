-- Rows that are built number by number.
use Rattle.std.proofs.Common.{◌≡◌, refl, sym, ap, ◌∙◌, ℕ, zero, suc, ◌+◌, ◌<◌, ◌≤◌, ℤ, pos, ◌-ℤ◌, ◌^◌, unsigned_abs, neg_ℤ, List, [], ◌∷◌, ◌++◌, length, get_or, append_assoc, add-one, length-append, ap₂, le_trans, lit≤, arith}
use Rattle.affine.specs.declared.row.Row.{Row}
use Rattle.affine.specs.Rows.{row_of}
use Rattle.std.proofs.lemmas.Int.{ints}
use Rattle.std.specs.List.{All}
use Rattle.dependence.specs.Terms.{IsNarrow}
use Rattle.fourier_motzkin.specs.RowSets.{IsWithin}
use Rattle.std.proofs.lemmas.List.Elements.{All-nil, All-cons, All-append}
use Rattle.dependence.specs.Comparisons.{Term, Number, Turn, AtX, AtY, AtMost, at_most, on_turn, on_x, on_y, alone, less, row_for}
use Rattle.dependence.proofs.SumLaws.{length-less}

same-front : (z : ℤ) (u v : List ℤ) → u ≡ v → z ∷ u ≡ z ∷ v
same-front z u v e = ap (λ (w : List ℤ). z ∷ w) e

one-more : (xs ys : List ℤ) (k : ℕ) → less (suc k) xs ys ≡ less k xs ys ++ (get_or xs k (pos 0) -ℤ get_or ys k (pos 0)) ∷ []
one-more [] [] zero = refl
one-more [] (y ∷ ys) zero = let e : neg_ℤ y ≡ pos 0 -ℤ y = omega (arith, ints) in ap (λ (w : ℤ). w ∷ []) e
one-more (x ∷ xs) [] zero = let e : x ≡ x -ℤ pos 0 = omega (arith, ints) in ap (λ (w : ℤ). w ∷ []) e
one-more (x ∷ xs) (y ∷ ys) zero = refl
one-more [] [] (suc k) = same-front (pos 0) _ _ (one-more [] [] k)
one-more [] (y ∷ ys) (suc k) = same-front (neg_ℤ y) _ _ (one-more [] ys k)
one-more (x ∷ xs) [] (suc k) = same-front x _ _ (one-more xs [] k)
one-more (x ∷ xs) (y ∷ ys) (suc k) = same-front (x -ℤ y) _ _ (one-more xs ys k)

-- one number more of the counters of x, and of y
pub pushed-x : (items after : List ℤ) (d number : ℤ) (xs ys : List ℤ) (k : ℕ) → items ≡ d ∷ less k xs ys → after ≡ items ++ number ∷ [] → number ≡ get_or xs k (pos 0) -ℤ get_or ys k (pos 0) → after ≡ d ∷ less (k + 1) xs ys
pushed-x items after d number xs ys k e f g = rw (f, e, g, add-one) (same-front d _ _ (sym (one-more xs ys k)))

pub pushed-y : (items after : List ℤ) (d number : ℤ) (front xs ys : List ℤ) (k : ℕ) → items ≡ d ∷ (front ++ less k xs ys) → after ≡ items ++ number ∷ [] → number ≡ get_or xs k (pos 0) -ℤ get_or ys k (pos 0) → after ≡ d ∷ (front ++ less (k + 1) xs ys)
pushed-y items after d number front xs ys k e f g = rw (f, e, g, add-one, one-more xs ys k) (same-front d _ _ (append_assoc front (less k xs ys) _))

pub room-x : (items : List ℤ) (d : ℤ) (xs ys : List ℤ) (k : ℕ) → items ≡ d ∷ less k xs ys → length items ≡ k + 1
room-x items d xs ys k e = let f = ap length e in let g = length-less k xs ys in omega arith

pub fits-x : (items : List ℤ) (d : ℤ) (xs ys : List ℤ) (k most D : ℕ) → items ≡ d ∷ less k xs ys → k < most → most ≤ D → D < 7 → length items < 16
fits-x items d xs ys k most D e l m few = let f = room-x items d xs ys k e in omega arith

pub fits-y : (items : List ℤ) (d : ℤ) (us vs xs ys : List ℤ) (n k most D : ℕ) → items ≡ d ∷ (less n us vs ++ less k xs ys) → n ≤ D → k < most → most ≤ D → D < 7 → length items < 16
fits-y items d us vs xs ys n k most D e i l m few =
    let f = ap length e in
    let g = length-append (less n us vs) (less k xs ys) in
    let h = length-less n us vs in
    let j = length-less k xs ys in
    omega arith

-- the row from its parts
pub row-is : (nx ny : ℕ) (c : AtMost) (row : Row) (items : List ℤ) → items ≡ (on_turn c.right -ℤ on_turn c.left) ∷ (less nx (on_x c.right) (on_x c.left) ++ less ny (on_y c.right) (on_y c.left))
    → row.coef.items ≡ items → row.cst ≡ alone c.right -ℤ alone c.left → row ≡ row_for nx ny c
row-is nx ny c row items e f g = ap₂ (λ (us : List ℤ) (z : ℤ). row_of us z) (f ∙ e) g

pub minus-is : (r a b u v : ℤ) → r ≡ a -ℤ b → a ≡ u → b ≡ v → r ≡ u -ℤ v
minus-is r a b u v e f g = rw (e, f, g) refl

pub same_length : (d : ℤ) (us xs ys : List ℤ) (n m : ℕ) → n ≡ m → d ∷ (us ++ less n xs ys) ≡ d ∷ (us ++ less m xs ys)
same_length d us xs ys n m e = ap (λ k. d ∷ (us ++ less k xs ys)) e

-- ---- a row of narrow terms is one that `verdict` takes

abs-minus : (a b : ℤ) → unsigned_abs a ≤ 2 ^ 99 → unsigned_abs b ≤ 2 ^ 99 → unsigned_abs (a -ℤ b) ≤ 2 ^ 100
abs-minus a b h k = grind (arith, ints)

abbrev Low : ℤ → Type 0
Low z = unsigned_abs z ≤ 2 ^ 100

abs-neg : (a : ℤ) → unsigned_abs a ≤ 2 ^ 99 → unsigned_abs (neg_ℤ a) ≤ 2 ^ 100
abs-neg a h = grind (arith, ints)

within-less : (n : ℕ) (xs ys : List ℤ) → ((k : ℕ) → unsigned_abs (get_or xs k (pos 0)) ≤ 2 ^ 99) → ((k : ℕ) → unsigned_abs (get_or ys k (pos 0)) ≤ 2 ^ 99) → All Low (less n xs ys)
within-less zero xs ys h k = All-nil Low
within-less (suc n) [] [] h k = All-cons Low (pos 0) (less n [] []) (lit≤ tt) (within-less n [] [] h k)
within-less (suc n) [] (y ∷ ys) h k = All-cons Low (neg_ℤ y) (less n [] ys) (abs-neg y (k 0)) (within-less n [] ys h (λ i. k (suc i)))
within-less (suc n) (x ∷ xs) [] h k = All-cons Low x (less n xs []) (le_trans (h 0) (lit≤ tt)) (within-less n xs [] (λ i. h (suc i)) k)
within-less (suc n) (x ∷ xs) (y ∷ ys) h k = All-cons Low (x -ℤ y) (less n xs ys) (abs-minus x y (h 0) (k 0)) (within-less n xs ys (λ i. h (suc i)) (λ i. k (suc i)))

on_turn-low : (p : Term) → unsigned_abs (on_turn p) ≤ 2 ^ 99
on_turn-low (Number number) = lit≤ tt
on_turn-low (Turn more) = lit≤ tt
on_turn-low (AtX form) = lit≤ tt
on_turn-low (AtY form) = lit≤ tt

pub within-row_for : (nx ny : ℕ) (p q : Term) → IsNarrow p → IsNarrow q → IsWithin (2 ^ 100) (row_for nx ny (at_most p q))
within-row_for nx ny p q h k = record {
  coef = All-cons Low (on_turn q -ℤ on_turn p) (less nx (on_x q) (on_x p) ++ less ny (on_y q) (on_y p)) (abs-minus (on_turn q) (on_turn p) (on_turn-low q) (on_turn-low p))
      (All-append Low (less nx (on_x q) (on_x p)) (less ny (on_y q) (on_y p)) (within-less nx (on_x q) (on_x p) k.x h.x) (within-less ny (on_y q) (on_y p) k.y h.y));
  cst = abs-minus (alone q) (alone p) k.alone h.alone;
}
