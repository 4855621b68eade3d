-- What an exchange of rows and a skew do to a square matrix and to its products.
use Rattle.std.proofs.Common.{◌≡◌, ◌≢◌, ℕ, zero, suc, ◌<◌, ℤ, pos, neg_ℤ, ◌+ℤ◌, ◌*ℤ◌, List, [], ◌∷◌, map, length, get_or, replicate, refl, sym, ap, ap₂, ◌∙◌, subst, ⊎_elim, arith}
use Rattle.std.specs.List.{AllByRecursion, range_with_len, swap}
use Rattle.std.proofs.Math.IntN.{*ℤ_comm}
use Rattle.std.proofs.Math.ListN.{set, length-set, get_or-map}
use Rattle.std.proofs.lemmas.Bool.{cases_eq}
use Rattle.std.proofs.lemmas.Int.{ints}
use Rattle.std.proofs.lemmas.List.{ext_get_or, get_or-set_same, get_or-set_other, length-map, length-replicate, map-set}
use Rattle.std.proofs.lemmas.List.FromFn.{get_or-map-range_with_len, length-map-range_with_len}
use Rattle.std.proofs.lemmas.List.Edits.{length-swap, swap_is, swapped_from_swap}
use Rattle.plain_lemmas.proofs.IntegerLaws.{*ℤ-neg_ℤ, one-*ℤ}
use Rattle.affine.specs.Inverses.{IsSquare}
use Rattle.affine.specs.Matrices.{identity, product, skew, unit_row}
use Rattle.affine.specs.Sums.{dot, weighted}
use Rattle.affine.proofs.SumLaws.{dot-weighted, length-weighted}

-- ---- products, row by row

pub length-product : (rows : List (List ℤ)) (x : List ℤ) → length (product rows x) ≡ length rows
length-product [] x = refl
length-product (row ∷ rows) x = ap suc (length-product rows x)

pub product-at : (rows : List (List ℤ)) (x : List ℤ) (i : ℕ) → get_or (product rows x) i (pos 0) ≡ dot (get_or rows i []) x
product-at rows x i = get_or-map (λ row. dot row x) rows i []

-- ---- a row that gains a multiple of another

-- the number at place a with m times that at place b
unfoldable pub gained : List ℤ → ℕ → ℕ → ℤ → List ℤ
gained z a b m = set z a (pos 1 *ℤ get_or z a (pos 0) +ℤ m *ℤ get_or z b (pos 0))

pub length-gained : (z : List ℤ) (a b : ℕ) (m : ℤ) → length (gained z a b m) ≡ length z
unfolding gained
length-gained z a b m = length-set z a _

pub all-at : (P : List ℤ → Type 0) (xs : List (List ℤ)) (i : ℕ) → i < length xs → AllByRecursion P xs → P (get_or xs i [])
all-at P [] i inside all = absurd (omega arith)
all-at P (x ∷ xs) zero inside all = all.0
all-at P (x ∷ xs) (suc i) inside all = all-at P xs i (omega arith) all.1

pub all-set : (P : List ℤ → Type 0) (xs : List (List ℤ)) (i : ℕ) (x : List ℤ) → AllByRecursion P xs → P x → AllByRecursion P (set xs i x)
all-set P [] i x all h = tt
all-set P (y ∷ xs) zero x all h = (h, all.1)
all-set P (y ∷ xs) (suc i) x all h = (all.0, all-set P xs i x all.1 h)

pub product-skew : (n : ℕ) (rows : List (List ℤ)) (a b : ℕ) (m : ℤ) (x : List ℤ) → a < n → b < n → IsSquare n rows → product (skew rows a b m) x ≡ gained (product rows x) a b m
unfolding gained
product-skew n rows a b m x in-a in-b square =
    let many = square.many in
    let long-a = all-at (λ row. length row ≡ n) rows a (omega (arith, many, in-a)) square.long in
    let long-b = all-at (λ row. length row ≡ n) rows b (omega (arith, many, in-b)) square.long in
    map-set (λ row. dot row x) rows a (weighted (pos 1) (get_or rows a []) m (get_or rows b []))
    ∙ ap (set (product rows x) a) (dot-weighted (pos 1) (get_or rows a []) m (get_or rows b []) x (long-a ∙ sym long-b)
    ∙ ap₂ (λ (u v : ℤ). pos 1 *ℤ u +ℤ m *ℤ v) (sym (product-at rows x a)) (sym (product-at rows x b)))

pub square-skew : (n : ℕ) (rows : List (List ℤ)) (a b : ℕ) (m : ℤ) → a < n → b < n → IsSquare n rows → IsSquare n (skew rows a b m)
square-skew n rows a b m in-a in-b square =
    let many = square.many in
    let long-a = all-at (λ row. length row ≡ n) rows a (omega (arith, many, in-a)) square.long in
    let long-b = all-at (λ row. length row ≡ n) rows b (omega (arith, many, in-b)) square.long in
    record {
      many = length-set rows a _ ∙ many;
      long = all-set (λ row. length row ≡ n) rows a _ square.long (length-weighted (pos 1) (get_or rows a []) m (get_or rows b []) (long-a ∙ sym long-b) ∙ long-a);
    }

-- ---- to gain and to lose

pub back-again : (m x y : ℤ) → pos 1 *ℤ (pos 1 *ℤ x +ℤ m *ℤ y) +ℤ neg_ℤ m *ℤ y ≡ x
back-again m x y =
    let one = one-*ℤ x in
    let two = one-*ℤ (pos 1 *ℤ x +ℤ m *ℤ y) in
    let turned : neg_ℤ m *ℤ y ≡ neg_ℤ (m *ℤ y) = *ℤ_comm (neg_ℤ m) y ∙ *ℤ-neg_ℤ y m ∙ ap neg_ℤ (*ℤ_comm y m) in
    omega (arith, ints, one, two, turned)

pub forth-again : (m x y : ℤ) → pos 1 *ℤ (pos 1 *ℤ x +ℤ neg_ℤ m *ℤ y) +ℤ m *ℤ y ≡ x
forth-again m x y =
    let one = one-*ℤ x in
    let two = one-*ℤ (pos 1 *ℤ x +ℤ neg_ℤ m *ℤ y) in
    let turned : neg_ℤ m *ℤ y ≡ neg_ℤ (m *ℤ y) = *ℤ_comm (neg_ℤ m) y ∙ *ℤ-neg_ℤ y m ∙ ap neg_ℤ (*ℤ_comm y m) in
    omega (arith, ints, one, two, turned)

pub set-set : (z : List ℤ) (a : ℕ) (v w : ℤ) → set (set z a v) a w ≡ set z a w
set-set [] a v w = refl
set-set (x ∷ z) zero v w = refl
set-set (x ∷ z) (suc a) v w = ap (λ l. x ∷ l) (set-set z a v w)

pub set-same : (z : List ℤ) (a : ℕ) → set z a (get_or z a (pos 0)) ≡ z
set-same [] a = refl
set-same (x ∷ z) zero = refl
set-same (x ∷ z) (suc a) = ap (λ l. x ∷ l) (set-same z a)

pub gained-lost : (z : List ℤ) (a b : ℕ) (m r : ℤ) → a < length z → a ≢ b → ((x y : ℤ) → pos 1 *ℤ (pos 1 *ℤ x +ℤ m *ℤ y) +ℤ r *ℤ y ≡ x) → gained (gained z a b m) a b r ≡ z
unfolding gained
gained-lost z a b m r inside apart again =
    let v : ℤ = pos 1 *ℤ get_or z a (pos 0) +ℤ m *ℤ get_or z b (pos 0) in
    let at-a : get_or (set z a v) a (pos 0) ≡ v = get_or-set_same z a v (pos 0) inside in
    let at-b : get_or (set z a v) b (pos 0) ≡ get_or z b (pos 0) = get_or-set_other z a b v (pos 0) (λ e. apart (sym e)) in
    ap (set (set z a v) a) (ap₂ (λ (s t : ℤ). pos 1 *ℤ s +ℤ r *ℤ t) at-a at-b ∙ again (get_or z a (pos 0)) (get_or z b (pos 0)))
    ∙ set-set z a v (get_or z a (pos 0)) ∙ set-same z a

-- ---- an exchange

pub map-swap : {X Y : Type 0} (f : X → Y) (xs : List X) (a b : ℕ) (d : X) → a < length xs → b < length xs → map f (swap xs a b) ≡ swap (map f xs) a b
map-swap f xs a b d in-a in-b =
    let size = length-map xs f in
    ap (map f) (sym (swap_is xs a b d in-a in-b))
    ∙ map-set f (set xs a (get_or xs b d)) b (get_or xs a d)
    ∙ ap (λ l. set l b (f (get_or xs a d))) (map-set f xs a (get_or xs b d))
    ∙ ap₂ (λ u v. set (set (map f xs) a u) b v) (sym (get_or-map f xs b d)) (sym (get_or-map f xs a d))
    ∙ swap_is (map f xs) a b (f d) (omega (arith, size, in-a)) (omega (arith, size, in-b))

pub square-swap : (n : ℕ) (rows : List (List ℤ)) (a b : ℕ) → a < n → b < n → IsSquare n rows → IsSquare n (swap rows a b)
square-swap n rows a b in-a in-b square =
    let many = square.many in
    record {
      many = length-swap rows a b ∙ many;
      long = subst (AllByRecursion (λ row. length row ≡ n)) (swap_is rows a b [] (omega (arith, many, in-a)) (omega (arith, many, in-b)))
          (all-set (λ row. length row ≡ n) (set rows a (get_or rows b [])) b (get_or rows a [])
          (all-set (λ row. length row ≡ n) rows a (get_or rows b []) square.long (all-at (λ row. length row ≡ n) rows b (omega (arith, many, in-b)) square.long))
          (all-at (λ row. length row ≡ n) rows a (omega (arith, many, in-a)) square.long));
    }

pub swap-twice : (z : List ℤ) (a b : ℕ) → a < length z → b < length z → swap (swap z a b) a b ≡ z
swap-twice z a b in-a in-b =
    let once = swapped_from_swap z (swap z a b) a b (pos 0) in-a in-b refl in
    let size = length-swap z a b in
    let again = length-swap (swap z a b) a b in
    let twice = swapped_from_swap (swap z a b) (swap (swap z a b) a b) a b (pos 0) (omega (arith, size, in-a)) (omega (arith, size, in-b)) refl in
    ext_get_or (pos 0) (swap (swap z a b) a b) z (again ∙ size) (λ k h. ⊎_elim
    (λ e. subst (λ (i : ℕ). get_or (swap (swap z a b) a b) i (pos 0) ≡ get_or z i (pos 0)) (sym e) (twice.0 ∙ once.1))
    (λ off. ⊎_elim
    (λ e. subst (λ (i : ℕ). get_or (swap (swap z a b) a b) i (pos 0) ≡ get_or z i (pos 0)) (sym e) (twice.1 ∙ once.0))
    (λ away. twice.2 k off away ∙ once.2 k off away)
    (cases_eq k b))
    (cases_eq k a))

-- ---- the unit matrix

pub row-at : (n i : ℕ) → i < n → get_or (identity n) i [] ≡ unit_row n i
row-at n i h = get_or-map-range_with_len (unit_row n) 0 n i i [] h (omega arith)

pub length-unit : (n i : ℕ) → length (unit_row n i) ≡ n
length-unit n i = length-set (replicate n (pos 0)) i (pos 1) ∙ length-replicate n (pos 0)

pub square-identity : (n : ℕ) → IsSquare n (identity n)
square-identity n = record { many = length-map-range_with_len (unit_row n) 0 n; long = units (range_with_len 0 n) }
  where
    units : (l : List ℕ) → AllByRecursion (λ row. length row ≡ n) (map (unit_row n) l)
    units [] = tt
    units (i ∷ l) = (length-unit n i, units l)
