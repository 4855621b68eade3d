-- How large the entries of a matrix grow by exchanges and skews.
use Rattle.std.proofs.Common.{◌≡◌, refl, subst, ℕ, zero, suc, ◌+◌, ◌*◌, ◌^◌, ◌<◌, ◌≤◌, ℤ, pos, ◌+ℤ◌, ◌*ℤ◌, unsigned_abs, List, [], ◌∷◌, length, get_or, set, replicate, lit≤, add-one, mul_comm, pow-suc, arith}
use Rattle.std.specs.List.{All, range_with_len, swap}
use Rattle.std.proofs.Math.Nat.{mul-le-mul}
use Rattle.std.proofs.lemmas.Int.{unsigned_abs-mul}
use Rattle.std.proofs.lemmas.List.Elements.{All-cons, All-get_or, All-head, All-map, All-nil, All-replicate, All-set, All-tail, All-weaker}
use Rattle.std.proofs.lemmas.List.Edits.{swap_is}
use Rattle.plain_lemmas.proofs.IntegerLaws.{one-*ℤ, unsigned_abs-add}
use Rattle.affine.specs.Forms.{AllWithinSize}
use Rattle.affine.specs.Matrices.{HasSmallEntries, identity, skew, unit_row}
use Rattle.affine.specs.Sums.{weighted}

-- every entry is at most this in size
abbrev pub EntriesWithin : ℕ → List (List ℤ) → Type 0
EntriesWithin most rows = All (AllWithinSize most) rows

pub EntriesWithin-weaker : (a b : ℕ) (rows : List (List ℤ)) → a ≤ b → EntriesWithin a rows → EntriesWithin b rows
EntriesWithin-weaker a b rows h small =
    All-weaker (AllWithinSize a) (AllWithinSize b) (λ row within. All-weaker (λ x. unsigned_abs x ≤ a) (λ x. unsigned_abs x ≤ b) (λ x k. omega arith) row within) rows small

pub EntriesWithin-identity : (n : ℕ) → EntriesWithin (9 ^ 0) (identity n)
EntriesWithin-identity n = All-map (AllWithinSize 1) (unit_row n) (range_with_len 0 n) (λ k d h. unit _)
  where
    unit : (place : ℕ) → AllWithinSize 1 (unit_row n place)
    unit place = let Small : ℤ → Type 0 = λ x. unsigned_abs x ≤ 1 in All-set Small (replicate n (pos 0)) place (pos 1) (lit≤ tt) (All-replicate Small n (pos 0) (lit≤ tt))

row-within : (most : ℕ) (rows : List (List ℤ)) (a : ℕ) → a < length rows → EntriesWithin most rows → AllWithinSize most (get_or rows a [])
row-within most rows a inside small = All-get_or (AllWithinSize most) rows a [] inside small

pub EntriesWithin-swap : (most : ℕ) (rows : List (List ℤ)) (a b : ℕ) → a < length rows → b < length rows → EntriesWithin most rows → EntriesWithin most (swap rows a b)
EntriesWithin-swap most rows a b in-a in-b small =
    subst (EntriesWithin most) (swap_is rows a b [] in-a in-b)
    (All-set (AllWithinSize most) (set rows a (get_or rows b [])) b (get_or rows a []) (row-within most rows a in-a small)
    (All-set (AllWithinSize most) rows a (get_or rows b []) (row-within most rows b in-b small) small))

-- a number with at most 8 times another
number-gained : (most : ℕ) (x y m : ℤ) → unsigned_abs x ≤ most → unsigned_abs y ≤ most → unsigned_abs m ≤ 8 → unsigned_abs (pos 1 *ℤ x +ℤ m *ℤ y) ≤ 9 * most
number-gained most x y m first second factor =
    let sum = unsigned_abs-add (pos 1 *ℤ x) (m *ℤ y) in
    let one : unsigned_abs (pos 1 *ℤ x) ≤ most = rw one-*ℤ first in
    let times : unsigned_abs (m *ℤ y) ≡ unsigned_abs m * unsigned_abs y = unsigned_abs-mul m y in
    let eight = mul-le-mul factor second in
    omega (arith, sum, one, times, eight)

weighted-within : (most : ℕ) (m : ℤ) (xs ys : List ℤ) → unsigned_abs m ≤ 8 → AllWithinSize most xs → AllWithinSize most ys → AllWithinSize (9 * most) (weighted (pos 1) xs m ys)
weighted-within most m [] ys factor first second = All-nil (λ x. unsigned_abs x ≤ 9 * most)
weighted-within most m (x ∷ xs) [] factor first second = All-nil (λ z. unsigned_abs z ≤ 9 * most)
weighted-within most m (x ∷ xs) (y ∷ ys) factor first second =
    let Small : ℤ → Type 0 = λ z. unsigned_abs z ≤ most in
    All-cons (λ z. unsigned_abs z ≤ 9 * most) _ _ (number-gained most x y m (All-head Small x xs first) (All-head Small y ys second) factor)
    (weighted-within most m xs ys factor (All-tail Small x xs first) (All-tail Small y ys second))

-- the row that a skew makes
pub row-within-skew : (most : ℕ) (rows : List (List ℤ)) (a b : ℕ) (m : ℤ) → a < length rows → b < length rows → unsigned_abs m ≤ 8 → EntriesWithin most rows → AllWithinSize (9 * most) (weighted (pos 1) (get_or rows a []) m (get_or rows b []))
row-within-skew most rows a b m in-a in-b factor small =
    weighted-within most m (get_or rows a []) (get_or rows b []) factor (row-within most rows a in-a small) (row-within most rows b in-b small)

pub EntriesWithin-skew : (most : ℕ) (rows : List (List ℤ)) (a b : ℕ) (m : ℤ) → a < length rows → b < length rows → unsigned_abs m ≤ 8 → EntriesWithin most rows → EntriesWithin (9 * most) (skew rows a b m)
EntriesWithin-skew most rows a b m in-a in-b factor small =
    All-set (AllWithinSize (9 * most)) rows a _ (row-within-skew most rows a b m in-a in-b factor small)
    (EntriesWithin-weaker most (9 * most) rows (omega arith) small)

-- the same after k skews
pub EntriesWithin-next : (k : ℕ) (rows : List (List ℤ)) (a b : ℕ) (m : ℤ) → a < length rows → b < length rows → unsigned_abs m ≤ 8 → EntriesWithin (9 ^ k) rows → EntriesWithin (9 ^ (k + 1)) (skew rows a b m)
EntriesWithin-next k rows a b m in-a in-b factor small =
    let next : 9 * 9 ^ k ≡ 9 ^ (k + 1) = rw (add-one, pow-suc) (mul_comm 9 (9 ^ k)) in
    subst (λ most. EntriesWithin most (skew rows a b m)) next (EntriesWithin-skew (9 ^ k) rows a b m in-a in-b factor small)

-- 6 skews stay within 2^20
pub pow-le : (k : ℕ) → k ≤ 6 → 9 ^ k ≤ 2 ^ 20
pow-le zero h = lit≤ tt
pow-le (suc zero) h = lit≤ tt
pow-le (suc (suc zero)) h = lit≤ tt
pow-le (suc (suc (suc zero))) h = lit≤ tt
pow-le (suc (suc (suc (suc zero)))) h = lit≤ tt
pow-le (suc (suc (suc (suc (suc zero))))) h = lit≤ tt
pow-le (suc (suc (suc (suc (suc (suc zero)))))) h = lit≤ tt
pow-le (suc (suc (suc (suc (suc (suc (suc k))))))) h = absurd (omega arith)

pub HasSmallEntries-within : (k : ℕ) (rows : List (List ℤ)) → k ≤ 6 → EntriesWithin (9 ^ k) rows → HasSmallEntries rows
HasSmallEntries-within k rows h small = EntriesWithin-weaker (9 ^ k) (2 ^ 20) rows (pow-le k h) small

-- the row of a seventh power at most is a row of a matrix
pub row-fits-skew : (k : ℕ) (rows : List (List ℤ)) (a b : ℕ) (m : ℤ) → k < 6 → a < length rows → b < length rows → unsigned_abs m ≤ 8 → EntriesWithin (9 ^ k) rows → AllWithinSize (2 ^ 20) (get_or (skew rows a b m) a [])
row-fits-skew k rows a b m few in-a in-b factor small =
    let size = length-set-of rows a (weighted (pos 1) (get_or rows a []) m (get_or rows b [])) in
    row-within (2 ^ 20) (skew rows a b m) a (omega (arith, size, in-a))
    (HasSmallEntries-within (k + 1) (skew rows a b m) (omega arith) (EntriesWithin-next k rows a b m in-a in-b factor small))
  where
    length-set-of : (xs : List (List ℤ)) (i : ℕ) (x : List ℤ) → length (set xs i x) ≡ length xs
    length-set-of [] i x = refl
    length-set-of (y ∷ xs) zero x = refl
    length-set-of (y ∷ xs) (suc i) x = let rest = length-set-of xs i x in omega (arith, rest)
