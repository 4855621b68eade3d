-- Sums of products, place by place.
use Rattle.std.proofs.Common.{◌≡◌, refl, sym, ap, ℕ, zero, suc, ◌<◌, ◌≤◌, ◌+◌, ◌*◌, ℤ, pos, ◌+ℤ◌, ◌*ℤ◌, unsigned_abs, List, [], ◌∷◌, ◌++◌, length, get_or, map, take, add-one, arith}
use Rattle.std.proofs.Math.IntN.{+ℤ_idr, +ℤ_idl, zero-*ℤ, *ℤ-zero, *ℤ_comm}
use Rattle.std.proofs.lemmas.Int.{ints, unsigned_abs-mul}
use Rattle.std.proofs.lemmas.List.Elements.{All-head, All-tail}
use Rattle.std.specs.List.{All}
use Rattle.plain_lemmas.proofs.IntegerLaws.{*ℤ-+ℤ, *ℤ_assoc, +ℤ-*ℤ, unsigned_abs-add}
use Rattle.affine.specs.Sums.{dot, weighted}

weighted-dot-step : (q x p y z a b : ℤ) → (q *ℤ x +ℤ p *ℤ y) *ℤ z +ℤ (q *ℤ a +ℤ p *ℤ b) ≡ q *ℤ (x *ℤ z +ℤ a) +ℤ p *ℤ (y *ℤ z +ℤ b)
weighted-dot-step q x p y z a b = rw (+ℤ-*ℤ (q *ℤ x) (p *ℤ y) z, *ℤ-+ℤ q (x *ℤ z) a, *ℤ-+ℤ p (y *ℤ z) b, *ℤ_assoc q x z, *ℤ_assoc p y z) (omega (arith, ints))

pub dot-nil : (xs : List ℤ) → dot xs [] ≡ pos 0
dot-nil [] = refl
dot-nil (x ∷ xs) = refl

zero-weighted : (q p : ℤ) → pos 0 ≡ q *ℤ pos 0 +ℤ p *ℤ pos 0
zero-weighted q p = rw (*ℤ-zero q, *ℤ-zero p) refl

-- the sum is linear in the list of coefficients
pub dot-weighted : (q : ℤ) (xs : List ℤ) (p : ℤ) (ys point : List ℤ) → length xs ≡ length ys → dot (weighted q xs p ys) point ≡ q *ℤ dot xs point +ℤ p *ℤ dot ys point
dot-weighted q [] p [] point h = zero-weighted q p
dot-weighted q [] p (y ∷ ys) point h = absurd (omega arith)
dot-weighted q (x ∷ xs) p [] point h = absurd (omega arith)
dot-weighted q (x ∷ xs) p (y ∷ ys) [] h = zero-weighted q p
dot-weighted q (x ∷ xs) p (y ∷ ys) (z ∷ zs) h =
    rw (dot-weighted q xs p ys zs (omega arith)) (weighted-dot-step q x p y z (dot xs zs) (dot ys zs))

pub dot-map-mul : (q : ℤ) (xs point : List ℤ) → dot (map (λ x. q *ℤ x) xs) point ≡ q *ℤ dot xs point
dot-map-mul q [] point = sym (*ℤ-zero q)
dot-map-mul q (x ∷ xs) [] = sym (*ℤ-zero q)
dot-map-mul q (x ∷ xs) (z ∷ zs) = rw (*ℤ-+ℤ q (x *ℤ z) (dot xs zs), *ℤ_assoc q x z, dot-map-mul q xs zs) refl

-- one more number of the point
pub dot-push : (xs point : List ℤ) (v : ℤ) → dot xs (point ++ v ∷ []) ≡ dot xs point +ℤ get_or xs (length point) (pos 0) *ℤ v
dot-push [] [] v = rw (zero-*ℤ v) refl
dot-push [] (z ∷ zs) v = rw (zero-*ℤ v) refl
dot-push (x ∷ xs) [] v = rw (dot-nil xs, +ℤ_idr (x *ℤ v), +ℤ_idl (x *ℤ v)) refl
dot-push (x ∷ xs) (z ∷ zs) v = let rest = dot-push xs zs v in omega (arith, ints)

pub length-weighted : (q : ℤ) (xs : List ℤ) (p : ℤ) (ys : List ℤ) → length xs ≡ length ys → length (weighted q xs p ys) ≡ length xs
length-weighted q [] p [] h = refl
length-weighted q [] p (y ∷ ys) h = refl
length-weighted q (x ∷ xs) p [] h = absurd (omega arith)
length-weighted q (x ∷ xs) p (y ∷ ys) h = ap suc (length-weighted q xs p ys (omega arith))

pub get_or-weighted : (q : ℤ) (xs : List ℤ) (p : ℤ) (ys : List ℤ) (i : ℕ) → i < length xs → i < length ys → get_or (weighted q xs p ys) i (pos 0) ≡ q *ℤ get_or xs i (pos 0) +ℤ p *ℤ get_or ys i (pos 0)
get_or-weighted q [] p ys i h k = absurd (omega arith)
get_or-weighted q (x ∷ xs) p [] i h k = absurd (omega arith)
get_or-weighted q (x ∷ xs) p (y ∷ ys) zero h k = refl
get_or-weighted q (x ∷ xs) p (y ∷ ys) (suc i) h k = get_or-weighted q xs p ys i (omega arith) (omega arith)

-- ---- one more place

pub dot-more : (xs ys : List ℤ) (i : ℕ) → i < length xs → i < length ys → dot (take (suc i) xs) (take (suc i) ys) ≡ dot (take i xs) (take i ys) +ℤ get_or xs i (pos 0) *ℤ get_or ys i (pos 0)
dot-more [] ys i h k = absurd (omega arith)
dot-more (x ∷ xs) [] i h k = absurd (omega arith)
dot-more (x ∷ xs) (y ∷ ys) zero h k = omega (arith, ints)
dot-more (x ∷ xs) (y ∷ ys) (suc i) h k = omega (arith, ints, dot-more xs ys i (omega arith) (omega arith))

pub dot-more-is : (xs ys : List ℤ) (i : ℕ) (sum r : ℤ) → i < length xs → i < length ys → sum ≡ dot (take i xs) (take i ys) → r ≡ sum +ℤ get_or xs i (pos 0) *ℤ get_or ys i (pos 0) → r ≡ dot (take (i + 1) xs) (take (i + 1) ys)
dot-more-is xs ys i sum r h k e f = rw (f, e, add-one) (sym (dot-more xs ys i h k))

-- the size of a sum with one more product
dot-step-size : (sum x y : ℤ) (n most range : ℕ) → unsigned_abs sum ≤ n * (most * range) → unsigned_abs x ≤ most → unsigned_abs y ≤ range → unsigned_abs (sum +ℤ x *ℤ y) ≤ (n + 1) * (most * range)
dot-step-size sum x y n most range h i j = grind (arith, unsigned_abs-add, unsigned_abs-mul)

pub dot-more-size : (xs ys : List ℤ) (i most range : ℕ) (sum : ℤ) → i < length xs → All (λ x. unsigned_abs x ≤ most) xs → unsigned_abs (get_or ys i (pos 0)) ≤ range → unsigned_abs sum ≤ i * (most * range) → unsigned_abs (sum +ℤ get_or xs i (pos 0) *ℤ get_or ys i (pos 0)) ≤ (i + 1) * (most * range)
dot-more-size xs ys i most range sum h all y small = dot-step-size sum (get_or xs i (pos 0)) (get_or ys i (pos 0)) i most range small (all i (pos 0) h) y

-- the size of a whole sum
pub abs-dot : (xs ys : List ℤ) (most range : ℕ) → All (λ x. unsigned_abs x ≤ most) xs → All (λ y. unsigned_abs y ≤ range) ys → unsigned_abs (dot xs ys) ≤ length xs * (most * range)
abs-dot [] ys most range h k = omega arith
abs-dot (x ∷ xs) [] most range h k = omega arith
abs-dot (x ∷ xs) (y ∷ ys) most range h k =
    let rest = abs-dot xs ys most range (All-tail (λ z. unsigned_abs z ≤ most) x xs h) (All-tail (λ z. unsigned_abs z ≤ range) y ys k) in
    let one = dot-step-size (dot xs ys) x y (length xs) most range rest (All-head (λ z. unsigned_abs z ≤ most) x xs h) (All-head (λ z. unsigned_abs z ≤ range) y ys k) in
    let turned : x *ℤ y +ℤ dot xs ys ≡ dot xs ys +ℤ x *ℤ y = omega (arith, ints) in
    rw (turned, ← add-one) one

-- ---- linear in the point too

pub dot-comm : (xs ys : List ℤ) → dot xs ys ≡ dot ys xs
dot-comm [] [] = refl
dot-comm [] (y ∷ ys) = refl
dot-comm (x ∷ xs) [] = refl
dot-comm (x ∷ xs) (y ∷ ys) = rw (dot-comm xs ys, *ℤ_comm x y) refl

pub dot-weighted-point : (row : List ℤ) (q : ℤ) (x : List ℤ) (p : ℤ) (y : List ℤ) → length x ≡ length y → dot row (weighted q x p y) ≡ q *ℤ dot row x +ℤ p *ℤ dot row y
dot-weighted-point row q x p y h = rw (dot-comm row (weighted q x p y), dot-comm row x, dot-comm row y) (dot-weighted q x p y row h)
