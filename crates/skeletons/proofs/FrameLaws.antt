-- The instances of the places that the blocks of a chunk have.
use Rattle.std.proofs.Common.{◌≡◌, refl, sym, ap, ap₂, ◌∙◌, subst, ℕ, zero, suc, ◌<◌, ◌≤◌, ◌+◌, ◌^◌, ℤ, pos, ◌+ℤ◌, ◌*ℤ◌, unsigned_abs, List, [], ◌∷◌, map, take, replicate, length, get_or, ◌⊎◌, inl, inr, ⊎_elim, arith}
use Rattle.std.specs.List.{AllByRecursion, range_with_len}
use Rattle.std.proofs.lemmas.Int.{ints}
use Rattle.std.proofs.lemmas.Bool.{cases_lt}
use Rattle.std.proofs.lemmas.List.{take_all}
use Rattle.plain_lemmas.proofs.MembershipLaws.{All-from, All-has, map-has}
use Rattle.plain_lemmas.proofs.IntegerLaws.{one-*ℤ}
use Rattle.plain_lemmas.proofs.ListLaws.{get_or-replicate-default}
use Rattle.affine.specs.Forms.{AllWithinSize}
use Rattle.affine.specs.Inverses.{across, IsSquare}
use Rattle.affine.specs.Matrices.{HasSmallEntries, product}
use Rattle.affine.specs.Sums.{dot}
use Rattle.affine.proofs.InverseLaws.{length-across}
use Rattle.affine.proofs.SumLaws.{get_or-weighted}
use Rattle.domain.specs.Instances.{counter}
use Rattle.domain.specs.Tables.{cut}
use Rattle.domain.proofs.PointLaws.{length-cut, cut-before, cut-after}
use Rattle.skeletons.specs.Frames.{entries, transposed}
use Rattle.skeletons.proofs.BlockLaws.{same_numbers}

-- ---- the inverse

transposed-small : (n : ℕ) (columns : List (List ℤ)) → IsSquare n columns → HasSmallEntries columns → HasSmallEntries (transposed n columns)
transposed-small n columns square small =
    All-from (AllWithinSize (2 ^ 20)) (transposed n columns) (λ row has.
    let (k, there, is) = map-has (entries columns) (range_with_len 0 n) row has in
    subst (AllWithinSize (2 ^ 20)) (sym is) (All-from (λ v. unsigned_abs v ≤ 2 ^ 20) (entries columns k) (λ v at.
    let (column, in_columns, e) = map-has (λ column. counter column k) columns v at in
    let c = All-has (AllWithinSize (2 ^ 20)) columns column small in_columns in
    subst (λ (z : ℤ). unsigned_abs z ≤ 2 ^ 20) (sym e) (by column k c (cases_lt k (length column))))))
  where
    past : (xs : List ℤ) (k : ℕ) → length xs ≤ k → get_or xs k (pos 0) ≡ pos 0
    past [] k h = refl
    past (x ∷ xs) zero h = absurd (omega arith)
    past (x ∷ xs) (suc k) h = past xs k (omega arith)

    by : (column : List ℤ) (k : ℕ) → AllWithinSize (2 ^ 20) column → (k < length column) ⊎ (length column ≤ k) → unsigned_abs (counter column k) ≤ 2 ^ 20
    by column k c (inl l) = c k (pos 0) l
    by column k c (inr l) = subst (λ (z : ℤ). unsigned_abs z ≤ 2 ^ 20) (sym (past column k l)) (omega arith)

pub transposed-small-from : (n : ℕ) (columns rows : List (List ℤ)) → IsSquare n columns → HasSmallEntries columns → length rows ≡ n → take n rows ≡ transposed n columns → HasSmallEntries rows
transposed-small-from n columns rows square small long e = subst HasSmallEntries (sym e ∙ take_all n rows (omega (arith, long))) (transposed-small n columns square small)

across-at : (n : ℕ) (columns : List (List ℤ)) (z : List ℤ) (k : ℕ) → k < n → AllByRecursion (λ column. length column ≡ n) columns → length z ≡ length columns → counter (across n columns z) k ≡ dot (entries columns k) z
across-at n [] z k h all long = zeros n k
  where
    zeros : (n k : ℕ) → get_or (replicate n (pos 0)) k (pos 0) ≡ pos 0
    zeros n k = get_or-replicate-default n k (pos 0)
across-at n (column ∷ columns) [] k h all long = absurd (omega arith)
across-at n (column ∷ columns) (number ∷ z) k h all long =
    let l = all.0 in
    let m = length-across n columns z all.1 in
    get_or-weighted number column (pos 1) (across n columns z) k (omega (arith, l, h)) (omega (arith, m, h))
    ∙ ap₂ (λ (a b : ℤ). a +ℤ b) (swap-factors number (counter column k)) (one-*ℤ (counter (across n columns z) k) ∙ across-at n columns z k h all.1 (omega arith))
  where
    swap-factors : (a b : ℤ) → a *ℤ b ≡ b *ℤ a
    swap-factors a b = grind (arith, ints)

pub product-transposed : (n : ℕ) (columns : List (List ℤ)) (z : List ℤ) → IsSquare n columns → length z ≡ n → product (transposed n columns) z ≡ across n columns z
product-transposed n columns z square long =
    let l = length-across n columns z square.long in
    let m = length-product (transposed n columns) z ∙ length-map-range (entries columns) n in
    same_numbers (product (transposed n columns) z) (across n columns z) (m ∙ sym l) (λ k h. at k (omega (arith, m, h)))
  where
    length-product : (rows : List (List ℤ)) (z : List ℤ) → length (product rows z) ≡ length rows
    length-product [] z = refl
    length-product (r ∷ rows) z = ap suc (length-product rows z)

    length-map-range : (f : ℕ → List ℤ) (n : ℕ) → length (map f (range_with_len 0 n)) ≡ n
    length-map-range f n = by n 0
      where
        by : (n first : ℕ) → length (map f (range_with_len first n)) ≡ n
        by zero first = refl
        by (suc n) first = ap suc (by n (first + 1))

    length-range : (n first : ℕ) → length (range_with_len first n) ≡ n
    length-range zero first = refl
    length-range (suc n) first = ap suc (length-range n (first + 1))

    at : (k : ℕ) → k < n → get_or (product (transposed n columns) z) k (pos 0) ≡ get_or (across n columns z) k (pos 0)
    at k h = from (range_with_len 0 n) k (let l = length-range n 0 in omega (arith, l, h)) ∙ ap (λ (j : ℕ). dot (entries columns j) z) (range-at n 0 k h ∙ (omega arith)) ∙ sym (across-at n columns z k h square.long (long ∙ sym square.many))
      where
        from : (ks : List ℕ) (k : ℕ) → k < length ks → get_or (product (map (entries columns) ks) z) k (pos 0) ≡ dot (entries columns (get_or ks k 0)) z
        from [] k h = absurd (omega arith)
        from (j ∷ ks) zero h = refl
        from (j ∷ ks) (suc k) h = from ks k (omega arith)

        range-at : (n first k : ℕ) → k < n → get_or (range_with_len first n) k 0 ≡ first + k
        range-at zero first k h = absurd (omega arith)
        range-at (suc n) first zero h = omega arith
        range-at (suc n) first (suc k) h = range-at n (first + 1) k (omega arith) ∙ (omega arith)

-- ---- counters

pub is-cut : (count : ℕ) (point at : List ℤ) → length at ≡ length point → ((k : ℕ) → k < count → counter at k ≡ counter point k) → ((k : ℕ) → count ≤ k → counter at k ≡ pos 0) → at ≡ cut count point
is-cut count point at long done rest =
    same_numbers at (cut count point) (long ∙ sym (length-cut count point)) (λ k h. ⊎_elim (λ l. done k l ∙ sym (cut-before count point k l)) (λ l. rest k l ∙ sym (cut-after count point k l)) (cases_lt k count))
