-- Matrices, row by row.
use Rattle.std.proofs.Common.{◌≡◌, refl, sym, ◌∙◌, subst, ℕ, zero, suc, ◌<◌, ◌≤◌, ◌+◌, ◌^◌, ℤ, pos, ◌+ℤ◌, ◌*ℤ◌, unsigned_abs, List, [], ◌∷◌, ◌++◌, length, get_or, set, take, map, replicate, FitsSigned, lit≤, arith}
use Rattle.std.specs.Int.{w64}
use Rattle.std.specs.List.{range_with_len}
use Rattle.std.proofs.lemmas.Int.{fits_signed_from_abs}
use Rattle.std.proofs.lemmas.List.{take_more, take_more_set, take_all, map-append}
use Rattle.std.proofs.lemmas.List.FromFn.{map-range_with_len_more}
use Rattle.std.proofs.lemmas.List.Elements.{All-map, All-set, All-replicate}
use Rattle.plain_lemmas.proofs.IntegerLaws.{one-*ℤ}
use Rattle.affine.specs.Forms.{AllWithinSize}
use Rattle.affine.specs.Matrices.{identity, unit_row, HasSmallEntries}
use Rattle.affine.specs.Sums.{weighted}
use Rattle.affine.proofs.SumLaws.{get_or-weighted, length-weighted}

-- ---- loops that write row by row, or entry by entry

-- a loop that writes a function of each element
pub map-step : {X Y : Type 0} (f : X → Y) (xs : List X) (ys : List Y) (i : ℕ) (d : X) (y : Y) → i < length xs → i < length ys → y ≡ f (get_or xs i d) → take i ys ≡ map f (take i xs) → take (i + 1) (set ys i y) ≡ map f (take (i + 1) xs)
map-step f xs ys i d y h k e done = rw (take_more_set ys i y k, take_more xs i d h, map-append, e, done) refl

-- a loop that writes a function of each index
pub map-range-step : {Y : Type 0} (f : ℕ → Y) (ys : List Y) (i : ℕ) (y : Y) → i < length ys → y ≡ f i → take i ys ≡ map f (range_with_len 0 i) → take (i + 1) (set ys i y) ≡ map f (range_with_len 0 (i + 1))
map-range-step f ys i y k e done = rw (take_more_set ys i y k, map-range_with_len_more f 0 i i (omega arith), e, done) refl

pub weighted-more : (m : ℤ) (xs ys : List ℤ) (i : ℕ) → i < length xs → i < length ys → weighted (pos 1) (take (i + 1) xs) m (take (i + 1) ys) ≡ weighted (pos 1) (take i xs) m (take i ys) ++ (get_or xs i (pos 0) +ℤ m *ℤ get_or ys i (pos 0)) ∷ []
weighted-more m [] ys i h k = absurd (omega arith)
weighted-more m (x ∷ xs) [] i h k = absurd (omega arith)
weighted-more m (x ∷ xs) (y ∷ ys) zero h k = rw (one-*ℤ x) refl
weighted-more m (x ∷ xs) (y ∷ ys) (suc i) h k =
    let e : suc i + 1 ≡ suc (i + 1) = omega arith in
    rw (e, weighted-more m xs ys i (omega arith) (omega arith)) refl

pub weighted-step : (m : ℤ) (xs ys zs : List ℤ) (i : ℕ) (z : ℤ) → i < length xs → i < length ys → i < length zs → z ≡ get_or xs i (pos 0) +ℤ m *ℤ get_or ys i (pos 0) → take i zs ≡ weighted (pos 1) (take i xs) m (take i ys) → take (i + 1) (set zs i z) ≡ weighted (pos 1) (take (i + 1) xs) m (take (i + 1) ys)
weighted-step m xs ys zs i z h k l e done = rw (take_more_set zs i z l, weighted-more m xs ys i h k, e, done) refl

-- an entry of small size fits a word
pub fits-from-small : (m : ℤ) (xs ys : List ℤ) (i : ℕ) → AllWithinSize (2 ^ 20) (weighted (pos 1) xs m ys) → length xs ≡ length ys → i < length xs → FitsSigned w64 (get_or xs i (pos 0) +ℤ m *ℤ get_or ys i (pos 0))
fits-from-small m xs ys i small same h =
    let short : i < length (weighted (pos 1) xs m ys) = omega (arith, length-weighted (pos 1) xs m ys same) in
    let entry : get_or (weighted (pos 1) xs m ys) i (pos 0) ≡ get_or xs i (pos 0) +ℤ m *ℤ get_or ys i (pos 0) = rw one-*ℤ at (get_or-weighted (pos 1) xs m ys i h (omega arith)) in
    let size = rw entry at (small i (pos 0) short) in
    fits_signed_from_abs w64 _ (omega (arith, size))

-- ---- small entries

small-unit_row : (n place : ℕ) → AllWithinSize (2 ^ 20) (unit_row n place)
small-unit_row n place =
    let Small : ℤ → Type 0 = λ x. unsigned_abs x ≤ 2 ^ 20 in
    All-set Small (replicate n (pos 0)) place (pos 1) (lit≤ tt) (All-replicate Small n (pos 0) (lit≤ tt))

pub HasSmallEntries-identity : (n : ℕ) → HasSmallEntries (identity n)
HasSmallEntries-identity n = All-map (AllWithinSize (2 ^ 20)) (unit_row n) (range_with_len 0 n) (λ k d h. small-unit_row n _)

-- rows that are those of the unit matrix
pub HasSmallEntries-identity-from : (n : ℕ) (rows : List (List ℤ)) → length rows ≡ n → take n rows ≡ identity n → HasSmallEntries rows
HasSmallEntries-identity-from n rows long done =
    let whole : rows ≡ identity n = sym (take_all n rows (omega arith)) ∙ done in
    subst HasSmallEntries (sym whole) (HasSmallEntries-identity n)
