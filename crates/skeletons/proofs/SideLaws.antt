-- Sums over a padded point, and their rows over places.
use Rattle.std.proofs.Common.{◌≡◌, refl, sym, ap, ◌∙◌, subst, ℕ, zero, suc, ◌<◌, ◌≤◌, ◌*◌, ◌^◌, ℤ, pos, ◌+ℤ◌, ◌-ℤ◌, ◌*ℤ◌, neg_ℤ, unsigned_abs, List, [], ◌∷◌, map, set, length, get_or, replicate, length-set, get_or-set_other, ◌≤ℤ◌, arith, lit≤, None}
use Rattle.std.specs.List.{All}
use Rattle.std.proofs.lemmas.Int.{ints}
use Rattle.std.proofs.lemmas.List.Elements.{All-nil, All-cons, All-head, All-tail}
use Rattle.std.proofs.lemmas.List.{get_or-set_same, length-replicate}
use Rattle.affine.specs.Forms.{Affine, AllWithinSize, value_at}
use Rattle.affine.specs.Sums.{dot}
use Rattle.affine.specs.Matrices.{product, HasSmallEntries}
use Rattle.affine.specs.Inverses.{across, IsSquare}
use Rattle.affine.proofs.SumLaws.{abs-dot}
use Rattle.affine.proofs.MovedSumLaws.{dot-set}
use Rattle.affine.proofs.PlaceLaws.{form_over_places}
use Rattle.plain_lemmas.proofs.MembershipLaws.{All-from, All-has, all-has, map-has}
use Rattle.plain_lemmas.proofs.IntegerLaws.{neg_ℤ-*ℤ, one-*ℤ}
use Rattle.domain.specs.Tables.{Table, cut, depth, form_or_zero, level_at, trip}
use Rattle.domain.proofs.PointLaws.{dot-zeros}
use Rattle.domain.specs.Instances.{counter}
use Rattle.affine.specs.Rows.{Meets, row_of, sum_at}
use Rattle.affine.specs.declared.row.Row.{Row}
use Rattle.plain_lemmas.proofs.ListLaws.{get_or-replicate-default}
use Rattle.std.specs.Prelude.{◌↔◌}
use Rattle.fourier_motzkin.specs.RowSets.{IsWithin}
use Rattle.skeletons.specs.Places.{IsNarrow, cut_less, flat, less_place, trip_less, turned}

-- ---- values

pub flat-value : (n : ℕ) (number : ℤ) (p : List ℤ) → value_at (flat n number) p ≡ number
flat-value n number p = let e = dot-zeros n p in omega (arith, ints, e)

cut-zeros : (k n : ℕ) → cut k (replicate n (pos 0)) ≡ replicate n (pos 0)
cut-zeros k zero = refl
cut-zeros zero (suc n) = ap (λ (xs : List ℤ). pos 0 ∷ xs) (cut-zeros zero n)
cut-zeros (suc k) (suc n) = ap (λ (xs : List ℤ). pos 0 ∷ xs) (cut-zeros k n)

pub flat-cut : (k n : ℕ) (less x : ℤ) → x ≡ pos 0 -ℤ less → flat n x ≡ cut_less k less (form_or_zero n None)
flat-cut k n less x e = rw (cut-zeros k n, e) refl

pub trip-value : (t : Table) (k : ℕ) (less : ℤ) (p : List ℤ) → value_at (trip_less t k less) p ≡ trip t k p -ℤ less
unfolding trip
trip-value t k less p = sums (dot (trip_less t k less).coef p) (form_or_zero (depth t) (level_at t k).trip).cst less
  where
    sums : (a b less : ℤ) → a +ℤ (b -ℤ less) ≡ (a +ℤ b) -ℤ less
    sums a b less = omega (arith, ints)

pub less-value : (k : ℕ) (side : Affine) (p : List ℤ) → k < length side.coef → k < length p → value_at (less_place k side) p ≡ value_at side p -ℤ counter p k
less-value k side p inside here =
    let e = dot-set side.coef p k (get_or side.coef k (pos 0) -ℤ pos 1) inside here in
    sums (dot side.coef p) side.cst (get_or side.coef k (pos 0)) (counter p k) (dot (set side.coef k (get_or side.coef k (pos 0) -ℤ pos 1)) p) e
  where
    minus-one : (d y : ℤ) → d ≡ neg_ℤ (pos 1) → d *ℤ y ≡ neg_ℤ y
    minus-one d y e = ap (λ (z : ℤ). z *ℤ y) e ∙ neg_ℤ-*ℤ (pos 1) y ∙ ap neg_ℤ (one-*ℤ y)

    sums : (a c w y s : ℤ) → s ≡ a +ℤ ((w -ℤ pos 1) -ℤ w) *ℤ y → s +ℤ c ≡ (a +ℤ c) -ℤ y
    sums a c w y s e = let m = minus-one ((w -ℤ pos 1) -ℤ w) y (omega (arith, ints)) in omega (arith, ints, m, e)

dot-turned : (xs ys : List ℤ) → dot (map (λ number. neg_ℤ number) xs) ys ≡ neg_ℤ (dot xs ys)
dot-turned [] ys = refl
dot-turned (x ∷ xs) [] = refl
dot-turned (x ∷ xs) (y ∷ ys) = rw (neg_ℤ-*ℤ x y, dot-turned xs ys) (sums (x *ℤ y) (dot xs ys))
  where
    sums : (a b : ℤ) → neg_ℤ a +ℤ neg_ℤ b ≡ neg_ℤ (a +ℤ b)
    sums a b = omega (arith, ints)

pub turned-value : (side : Affine) (p : List ℤ) → value_at (turned side) p ≡ neg_ℤ (value_at side p)
turned-value side p = let e = dot-turned side.coef p in omega (arith, ints, e)

-- ---- sizes

pub zeros-small : (n most : ℕ) → AllWithinSize most (replicate n (pos 0))
zeros-small zero most = All-nil (λ x. unsigned_abs x ≤ most)
zeros-small (suc n) most = All-cons (λ x. unsigned_abs x ≤ most) (pos 0) (replicate n (pos 0)) (omega arith) (zeros-small n most)

pub cut-small : (k most : ℕ) (xs : List ℤ) → AllWithinSize most xs → AllWithinSize most (cut k xs)
cut-small k most [] h = All-nil (λ x. unsigned_abs x ≤ most)
cut-small zero most (x ∷ xs) h = All-cons (λ x. unsigned_abs x ≤ most) (pos 0) (cut zero xs) (omega arith) (cut-small zero most xs (All-tail (λ x. unsigned_abs x ≤ most) x xs h))
cut-small (suc k) most (x ∷ xs) h =
    All-cons (λ x. unsigned_abs x ≤ most) x (cut k xs) (All-head (λ x. unsigned_abs x ≤ most) x xs h) (cut-small k most xs (All-tail (λ x. unsigned_abs x ≤ most) x xs h))

pub set-small : (most : ℕ) (xs : List ℤ) (k : ℕ) (v : ℤ) → AllWithinSize most xs → unsigned_abs v ≤ most → AllWithinSize most (set xs k v)
set-small most [] k v h small = All-nil (λ x. unsigned_abs x ≤ most)
set-small most (x ∷ xs) zero v h small = All-cons (λ x. unsigned_abs x ≤ most) v xs small (All-tail (λ x. unsigned_abs x ≤ most) x xs h)
set-small most (x ∷ xs) (suc k) v h small =
    All-cons (λ x. unsigned_abs x ≤ most) x (set xs k v) (All-head (λ x. unsigned_abs x ≤ most) x xs h) (set-small most xs k v (All-tail (λ x. unsigned_abs x ≤ most) x xs h) small)

pub wider : (least most : ℕ) (xs : List ℤ) → least ≤ most → AllWithinSize least xs → AllWithinSize most xs
wider least most xs le h = All-from (λ x. unsigned_abs x ≤ most) xs (λ x has. let a = All-has (λ x. unsigned_abs x ≤ least) xs x h has in omega (arith, a))

pub flat-narrow : (n : ℕ) (number : ℤ) → unsigned_abs number ≤ 2 ^ 80 → IsNarrow (2 ^ 40) (flat n number)
flat-narrow n number h = record { coef = zeros-small n (2 ^ 40); cst = h }

pub cut-narrow : (k : ℕ) (less : ℤ) (form : Affine) → AllWithinSize (2 ^ 40) form.coef → unsigned_abs (form.cst -ℤ less) ≤ 2 ^ 80 → IsNarrow (2 ^ 40) (cut_less k less form)
cut-narrow k less form h small = record { coef = cut-small k (2 ^ 40) form.coef h; cst = small }

pub less-narrow : (k : ℕ) (side : Affine) → unsigned_abs (get_or side.coef k (pos 0) -ℤ pos 1) ≤ 2 ^ 41 → IsNarrow (2 ^ 40) side → IsNarrow (2 ^ 41) (less_place k side)
less-narrow k side small h = record { coef = set-small (2 ^ 41) side.coef k (get_or side.coef k (pos 0) -ℤ pos 1) (wider (2 ^ 40) (2 ^ 41) side.coef (lit≤ tt) h.coef) small; cst = h.cst }

pub turned-narrow : (side : Affine) → IsNarrow (2 ^ 41) side → IsNarrow (2 ^ 41) (turned side)
turned-narrow side h = record {
  coef = All-from (λ x. unsigned_abs x ≤ 2 ^ 41) (map (λ number. neg_ℤ number) side.coef) (λ v has.
      let (x, there, is) = map-has (λ number. neg_ℤ number) side.coef v has in
      let a = All-has (λ x. unsigned_abs x ≤ 2 ^ 41) side.coef x h.coef there in
      omega (arith, ints, a, is));
  cst = let a = h.cst in omega (arith, ints, a);
}

-- ---- rows

pub product-small : (columns : List (List ℤ)) (coef : List ℤ) (n : ℕ) → n < 7 → IsSquare n columns → HasSmallEntries columns → AllWithinSize (2 ^ 41) coef → All (λ number. unsigned_abs number ≤ 2 ^ 100) (product columns coef)
product-small columns coef n few square small narrow =
    All-from (λ number. unsigned_abs number ≤ 2 ^ 100) (product columns coef) (λ v h.
    let (column, has, is) = map-has (λ column. dot column coef) columns v h in
    let a = abs-dot column coef (2 ^ 20) (2 ^ 41) (All-has (AllWithinSize (2 ^ 20)) columns column small has) narrow in
    let l : length column ≡ n = all-has (λ (c : List ℤ). length c ≡ n) columns column square.long has in
    let m = few-times (length column) n l few in
    subst (λ (z : ℤ). unsigned_abs z ≤ 2 ^ 100) (sym is) (omega (arith, a, m)))
  where
    few-times : (l n : ℕ) → l ≡ n → n < 7 → l * (2 ^ 20 * 2 ^ 41) ≤ 2 ^ 100
    few-times l n e h = omega arith

pub row-within : (columns : List (List ℤ)) (coef items : List ℤ) (cst : ℤ) (n : ℕ) → items ≡ product columns coef → n < 7 → IsSquare n columns → HasSmallEntries columns → AllWithinSize (2 ^ 41) coef → unsigned_abs cst ≤ 2 ^ 80
    → IsWithin (2 ^ 100) (row_of items cst)
row-within columns coef items cst n e few square small narrow h = record {
  coef = subst (All (λ number. unsigned_abs number ≤ 2 ^ 100)) (sym e) (product-small columns coef n few square small narrow);
  cst = omega (arith, h);
}

pub row-value : (n : ℕ) (columns : List (List ℤ)) (coef items place : List ℤ) (cst : ℤ) → items ≡ product columns coef → IsSquare n columns → length coef ≡ n → length place ≡ n
    → sum_at (row_of items cst) place ≡ value_at (record { coef = coef; cst = cst }) (across n columns place)
row-value n columns coef items place cst e square size long =
    ap (λ (z : ℤ). z +ℤ cst) (ap (λ (xs : List ℤ). dot xs place) e ∙ sym (form_over_places n columns coef place square size long))

-- ---- what the rows of a place say

pub length-less : (k : ℕ) (side : Affine) → length (less_place k side).coef ≡ length side.coef
length-less k side = length-set side.coef k (get_or side.coef k (pos 0) -ℤ pos 1)

length-map-neg : (xs : List ℤ) → length (map (λ number. neg_ℤ number) xs) ≡ length xs
length-map-neg [] = refl
length-map-neg (x ∷ xs) = ap suc (length-map-neg xs)

one_less-small : (x : ℤ) → unsigned_abs x ≤ 2 ^ 40 → unsigned_abs (x -ℤ pos 1) ≤ 2 ^ 41
one_less-small x h = omega (arith, ints, h)

pub less-narrow-at : (k : ℕ) (side : Affine) → k < length side.coef → IsNarrow (2 ^ 40) side → IsNarrow (2 ^ 41) (less_place k side)
less-narrow-at k side inside h = less-narrow k side (one_less-small (get_or side.coef k (pos 0)) (h.coef k (pos 0) inside)) h

pub below-meets : (k : ℕ) (row : Row) (side : Affine) (p z : List ℤ) → k < length side.coef → k < length p → sum_at row z ≡ value_at (less_place k side) p → Meets z row ↔ (counter p k ≤ℤ value_at side p)
below-meets k row side p z inside here e =
    let f = less-value k side p inside here in
    (λ h. omega (arith, ints, e, f, h), λ h. omega (arith, ints, e, f, h))

pub above-meets : (k : ℕ) (row : Row) (side : Affine) (p z : List ℤ) → k < length side.coef → k < length p → sum_at row z ≡ value_at (turned (less_place k side)) p → Meets z row ↔ (value_at side p ≤ℤ counter p k)
above-meets k row side p z inside here e =
    let f = less-value k side p inside here in
    let g = turned-value (less_place k side) p in
    (λ h. omega (arith, ints, e, f, g, h), λ h. omega (arith, ints, e, f, g, h))

get_or-zeros : (n k : ℕ) → get_or (replicate n (pos 0)) k (pos 0) ≡ pos 0
get_or-zeros n k = get_or-replicate-default n k (pos 0)

pub flat-less-at : (n k j : ℕ) (c : ℤ) → k < n → (j ≡ k → ⊥) → get_or (less_place k (flat n c)).coef j (pos 0) ≡ pos 0
flat-less-at n k j c inside ne = rw get_or-set_other (get_or-zeros n j)

pub flat-less-here : (n k : ℕ) (c : ℤ) → k < n → get_or (less_place k (flat n c)).coef k (pos 0) ≡ neg_ℤ (pos 1)
flat-less-here n k c inside =
    get_or-set_same (replicate n (pos 0)) k (get_or (replicate n (pos 0)) k (pos 0) -ℤ pos 1) (pos 0) (let l = length-replicate n (pos 0) in omega (arith, l))
    ∙ (let e = get_or-zeros n k in omega (arith, ints, e))

get_or-map-neg : (xs : List ℤ) (k : ℕ) → get_or (map (λ number. neg_ℤ number) xs) k (pos 0) ≡ neg_ℤ (get_or xs k (pos 0))
get_or-map-neg [] k = refl
get_or-map-neg (x ∷ xs) zero = refl
get_or-map-neg (x ∷ xs) (suc k) = get_or-map-neg xs k

pub turned-at : (side : Affine) (k : ℕ) → get_or (turned side).coef k (pos 0) ≡ neg_ℤ (get_or side.coef k (pos 0))
turned-at side k = get_or-map-neg side.coef k

-- ---- the box

pub box_below-meets : (n k : ℕ) (row : Row) (c : ℤ) (z : List ℤ) → k < n → length z ≡ n → row ≡ row_of (less_place k (flat n c)).coef c → Meets z row ↔ (counter z k ≤ℤ c)
box_below-meets n k row c z inside long e =
    let f = less-value k (flat n c) z (let l = length-replicate n (pos 0) in omega (arith, l)) (omega (arith, long)) ∙ ap (λ (v : ℤ). v -ℤ counter z k) (flat-value n c z) in
    let m = ap (λ (r : Row). sum_at r z) e ∙ f in
    (λ h. omega (arith, ints, m, h), λ h. omega (arith, ints, m, h))

pub box_above-meets : (n k : ℕ) (row : Row) (c : ℤ) (z : List ℤ) → k < n → length z ≡ n → row ≡ row_of (turned (less_place k (flat n c))).coef (neg_ℤ c) → Meets z row ↔ (c ≤ℤ counter z k)
box_above-meets n k row c z inside long e =
    let f = turned-value (less_place k (flat n c)) z in
    let g = less-value k (flat n c) z (let l = length-replicate n (pos 0) in omega (arith, l)) (omega (arith, long)) ∙ ap (λ (v : ℤ). v -ℤ counter z k) (flat-value n c z) in
    let m = ap (λ (r : Row). sum_at r z) e ∙ f in
    (λ h. omega (arith, ints, m, g, h), λ h. omega (arith, ints, m, g, h))

pub turned-alone : (n k j : ℕ) (c : ℤ) → k < n → (j ≡ k → ⊥) → get_or (turned (less_place k (flat n c))).coef j (pos 0) ≡ pos 0
turned-alone n k j c inside ne = turned-at (less_place k (flat n c)) j ∙ ap neg_ℤ (flat-less-at n k j c inside ne)

pub turned-side : (n k : ℕ) (c : ℤ) → k < n → get_or (turned (less_place k (flat n c))).coef k (pos 0) ≡ pos 1
turned-side n k c inside = turned-at (less_place k (flat n c)) k ∙ ap neg_ℤ (flat-less-here n k c inside)
