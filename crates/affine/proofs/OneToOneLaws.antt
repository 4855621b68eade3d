-- Matrices that map whole-number points one to one.
use Rattle.std.proofs.Common.{◌≡◌, ◌≢◌, refl, sym, ◌∙◌, ap, ℕ, zero, suc, ◌<◌, ℤ, pos, ◌+ℤ◌, ◌*ℤ◌, List, [], ◌∷◌, length, get_or, replicate, subst, ◌⊎◌, inl, inr, arith}
use Rattle.std.specs.List.{swap}
use Rattle.std.proofs.Math.IntN.{zero-*ℤ, +ℤ_idl, +ℤ_idr}
use Rattle.std.proofs.Math.ListN.{get_or-map}
use Rattle.std.proofs.lemmas.Bool.{cases_eq}
use Rattle.std.proofs.lemmas.Int.{ints}
use Rattle.std.proofs.lemmas.List.{length-map, ext_get_or, get_or-set_same, get_or-set_other}
use Rattle.std.proofs.lemmas.List.Edits.{Swapped, swapped_from_swap}
use Rattle.std.proofs.lemmas.List.FromFn.{length-map-range_with_len, get_or-map-range_with_len}
use Rattle.plain_lemmas.proofs.IntegerLaws.{one-*ℤ}
use Rattle.affine.specs.Matrices.{identity, unit_row, product, skew, IsOneToOne}
use Rattle.affine.specs.Sums.{dot, weighted}
use Rattle.affine.proofs.SumLaws.{dot-weighted, dot-weighted-point}

-- ---- linear

pub product-weighted : (rows : List (List ℤ)) (q : ℤ) (x : List ℤ) (p : ℤ) (y : List ℤ) → length x ≡ length y → product rows (weighted q x p y) ≡ weighted q (product rows x) p (product rows y)
product-weighted [] q x p y h = refl
product-weighted (row ∷ rows) q x p y h = rw (dot-weighted-point row q x p y h, product-weighted rows q x p y h) refl

-- ---- the unit matrix

pub dot-zeros : (n : ℕ) (ys : List ℤ) → dot (replicate n (pos 0)) ys ≡ pos 0
dot-zeros zero ys = refl
dot-zeros (suc n) [] = refl
dot-zeros (suc n) (y ∷ ys) = rw (zero-*ℤ y, dot-zeros n ys) refl

pub dot-unit_row : (n place : ℕ) (ys : List ℤ) → place < n → dot (unit_row n place) ys ≡ get_or ys place (pos 0)
dot-unit_row zero place ys h = absurd (omega arith)
dot-unit_row (suc n) zero [] h = refl
dot-unit_row (suc n) zero (y ∷ ys) h = rw (one-*ℤ y, dot-zeros n ys, +ℤ_idr y) refl
dot-unit_row (suc n) (suc place) [] h = refl
dot-unit_row (suc n) (suc place) (y ∷ ys) h = rw (zero-*ℤ y, dot-unit_row n place ys (omega arith), +ℤ_idl) refl

pub product-identity : (point : List ℤ) → product (identity (length point)) point ≡ point
product-identity point = ext_get_or (pos 0) (product (identity (length point)) point) point long same
  where
    sums : List ℤ
    sums = product (identity (length point)) point

    long : length sums ≡ length point
    long = length-map (identity (length point)) (λ row. dot row point) ∙ length-map-range_with_len (unit_row (length point)) 0 (length point)

    row-at : (i : ℕ) → i < length point → get_or (identity (length point)) i [] ≡ unit_row (length point) i
    row-at i h = get_or-map-range_with_len (unit_row (length point)) 0 (length point) i i [] h (omega arith)

    same : (i : ℕ) → i < length sums → get_or sums i (pos 0) ≡ get_or point i (pos 0)
    same i h =
        let inside : i < length point = omega (arith, long) in
        get_or-map (λ row. dot row point) (identity (length point)) i [] ∙ (ap (λ row. dot row point) (row-at i inside) ∙ dot-unit_row (length point) i point inside)

pub IsOneToOne-identity : (n : ℕ) → IsOneToOne n (identity n)
IsOneToOne-identity n first second h k e =
    sym (product-identity first) ∙ (subst (λ m. product (identity m) first ≡ product (identity m) second) (sym h) e ∙ subst (λ m. product (identity m) second ≡ second) (k ∙ sym h) (product-identity second))

-- ---- equal products are equal sums in each row

dots-from-product : (rows : List (List ℤ)) (first second : List ℤ) → product rows first ≡ product rows second → (k : ℕ) → dot (get_or rows k []) first ≡ dot (get_or rows k []) second
dots-from-product rows first second e k =
    sym (get_or-map (λ row. dot row first) rows k []) ∙ (ap (λ sums. get_or sums k (pos 0)) e ∙ get_or-map (λ row. dot row second) rows k [])

product-from-dots : (rows : List (List ℤ)) (first second : List ℤ) → ((k : ℕ) → dot (get_or rows k []) first ≡ dot (get_or rows k []) second) → product rows first ≡ product rows second
product-from-dots [] first second h = refl
product-from-dots (row ∷ rows) first second h = rw (h 0, product-from-dots rows first second (λ k. h (suc k))) refl

pub IsOneToOne-swap : (n : ℕ) (rows : List (List ℤ)) (a b : ℕ) → a < length rows → b < length rows → IsOneToOne n rows → IsOneToOne n (swap rows a b)
IsOneToOne-swap n rows a b in-a in-b one first second h k e =
    one first second h k (product-from-dots rows first second (λ i. by i (cases_eq i a) (cases_eq i b)))
  where
    Same : List ℤ → Type 0
    Same row = dot row first ≡ dot row second

    moved : Swapped (λ i. get_or rows i []) (λ i. get_or (swap rows a b) i []) a b
    moved = swapped_from_swap rows (swap rows a b) a b [] in-a in-b refl

    each : (i : ℕ) → Same (get_or (swap rows a b) i [])
    each = dots-from-product (swap rows a b) first second e

    by : (i : ℕ) → (i ≡ a) ⊎ (i ≡ a → ⊥) → (i ≡ b) ⊎ (i ≡ b → ⊥) → Same (get_or rows i [])
    by i (inl at) either = subst (λ j. Same (get_or rows j [])) (sym at) (subst Same moved.1 (each b))
    by i (inr off) (inl at) = subst (λ j. Same (get_or rows j [])) (sym at) (subst Same moved.0 (each a))
    by i (inr off) (inr away) = subst Same (moved.2 i off away) (each i)

-- what is left of equal sums after equal parts are taken away
same-first : (m x y u v : ℤ) → u ≡ v → pos 1 *ℤ x +ℤ m *ℤ u ≡ pos 1 *ℤ y +ℤ m *ℤ v → x ≡ y
same-first m x y u v h e =
    let one-x = one-*ℤ x in
    let one-y = one-*ℤ y in
    let f : pos 1 *ℤ x +ℤ m *ℤ v ≡ pos 1 *ℤ y +ℤ m *ℤ v = rw h at e in
    omega (arith, ints)

pub IsOneToOne-skew : (n : ℕ) (rows : List (List ℤ)) (a b : ℕ) (m : ℤ) → a < length rows → a ≢ b → length (get_or rows a []) ≡ length (get_or rows b []) → IsOneToOne n rows → IsOneToOne n (skew rows a b m)
IsOneToOne-skew n rows a b m in-a apart long one first second h k e =
    one first second h k (product-from-dots rows first second (λ i. by i (cases_eq i a)))
  where
    Same : List ℤ → Type 0
    Same row = dot row first ≡ dot row second

    gained : List ℤ
    gained = weighted (pos 1) (get_or rows a []) m (get_or rows b [])

    each : (i : ℕ) → Same (get_or (skew rows a b m) i [])
    each = dots-from-product (skew rows a b m) first second e

    other : (i : ℕ) → (i ≡ a → ⊥) → Same (get_or rows i [])
    other i off = subst Same (get_or-set_other rows a i gained [] off) (each i)

    whole : Same gained
    whole = subst Same (get_or-set_same rows a gained [] in-a) (each a)

    parts : (point : List ℤ) → dot gained point ≡ pos 1 *ℤ dot (get_or rows a []) point +ℤ m *ℤ dot (get_or rows b []) point
    parts point = dot-weighted (pos 1) (get_or rows a []) m (get_or rows b []) point long

    at-a : Same (get_or rows a [])
    at-a = same-first m _ _ _ _ (other b (λ at. apart (sym at))) (sym (parts first) ∙ (whole ∙ parts second))

    by : (i : ℕ) → (i ≡ a) ⊎ (i ≡ a → ⊥) → Same (get_or rows i [])
    by i (inl at) = subst (λ j. Same (get_or rows j [])) (sym at) at-a
    by i (inr off) = other i off
