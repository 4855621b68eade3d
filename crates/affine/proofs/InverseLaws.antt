-- The inverse of a matrix by its columns, kept by exchanges and skews.
use Rattle.std.proofs.Common.{◌≡◌, ℕ, suc, ◌<◌, ℤ, pos, neg_ℤ, ◌+ℤ◌, ◌*ℤ◌, List, [], ◌∷◌, map, length, get_or, replicate, refl, sym, ap, ap₂, ◌∙◌, subst, ⊎_elim, arith}
use Rattle.std.specs.List.{AllByRecursion, swap}
use Rattle.std.proofs.Math.IntN.{*ℤ_comm}
use Rattle.std.proofs.Math.ListN.{set, get_or-map}
use Rattle.std.proofs.lemmas.Bool.{cases_eq}
use Rattle.std.proofs.lemmas.List.{ext_get_or, get_or-replicate, get_or-set_other, length-map, length-replicate, map-set}
use Rattle.std.proofs.lemmas.List.FromFn.{length-map-range_with_len}
use Rattle.std.proofs.lemmas.List.Edits.{length-swap}
use Rattle.plain_lemmas.proofs.IntegerLaws.{one-*ℤ}
use Rattle.affine.specs.Inverses.{IsSquare, across}
use Rattle.affine.specs.Laws.{IdentityIsInverse, SwapKeepsInverse, SkewKeepsInverse, InvertedIsOneToOneAndOnto}
use Rattle.affine.specs.Matrices.{identity, product, skew, unit_row}
use Rattle.affine.specs.Sums.{dot, weighted}
use Rattle.affine.proofs.MoveLaws.{all-at, back-again, forth-again, gained, gained-lost, length-gained, length-product, length-unit, map-swap, product-at, product-skew, row-at, square-identity, square-skew, square-swap, swap-twice}
use Rattle.affine.proofs.MovedSumLaws.{dot-gained, dot-swap}
use Rattle.affine.proofs.OneToOneLaws.{product-identity}
use Rattle.affine.proofs.SumLaws.{get_or-weighted, length-weighted}

pub length-across : (n : ℕ) (columns : List (List ℤ)) (ys : List ℤ) → AllByRecursion (λ column. length column ≡ n) columns → length (across n columns ys) ≡ n
length-across n [] ys long = length-replicate n (pos 0)
length-across n (column ∷ columns) [] long = length-replicate n (pos 0)
length-across n (column ∷ columns) (y ∷ ys) long = length-weighted y column (pos 1) (across n columns ys) (long.0 ∙ sym (length-across n columns ys long.1)) ∙ long.0

-- ---- coordinates

entries : ℕ → List (List ℤ) → List ℤ
entries k columns = map (λ column. get_or column k (pos 0)) columns

across-at : (n : ℕ) (columns : List (List ℤ)) (ys : List ℤ) (k : ℕ) → AllByRecursion (λ column. length column ≡ n) columns → k < n → get_or (across n columns ys) k (pos 0) ≡ dot (entries k columns) ys
unfolding entries
across-at n [] ys k long below = get_or-replicate n k (pos 0) (pos 0) below
across-at n (column ∷ columns) [] k long below = get_or-replicate n k (pos 0) (pos 0) below
across-at n (column ∷ columns) (y ∷ ys) k long below =
    let rest = length-across n columns ys long.1 in
    let size = long.0 in
    get_or-weighted y column (pos 1) (across n columns ys) k (omega (arith, size, below)) (omega (arith, rest, below))
    ∙ ap₂ (λ (a b : ℤ). a +ℤ b) (*ℤ_comm y (get_or column k (pos 0))) (one-*ℤ (get_or (across n columns ys) k (pos 0)) ∙ across-at n columns ys k long.1 below)

same-across : (n : ℕ) (columns others : List (List ℤ)) (ys zs : List ℤ) → AllByRecursion (λ column. length column ≡ n) columns → AllByRecursion (λ column. length column ≡ n) others
    → ((k : ℕ) → k < n → dot (entries k columns) ys ≡ dot (entries k others) zs) → across n columns ys ≡ across n others zs
same-across n columns others ys zs long also same =
    let first = length-across n columns ys long in
    let second = length-across n others zs also in
    ext_get_or (pos 0) (across n columns ys) (across n others zs) (first ∙ sym second) (λ k h.
    let below : k < n = omega (arith, first, h) in
    across-at n columns ys k long below ∙ same k below ∙ sym (across-at n others zs k also below))

length-entries : (k : ℕ) (columns : List (List ℤ)) → length (entries k columns) ≡ length columns
unfolding entries
length-entries k [] = refl
length-entries k (c ∷ columns) = ap suc (length-entries k columns)

-- ---- a row that gains a multiple of another

entries-skew : (n k : ℕ) (columns : List (List ℤ)) (a b : ℕ) (m : ℤ) → a < n → b < n → k < n → IsSquare n columns → entries k (skew columns a b m) ≡ gained (entries k columns) a b m
unfolding gained entries
entries-skew n k columns a b m in-a in-b below square =
    let many = square.many in
    let long-a = all-at (λ row. length row ≡ n) columns a (omega (arith, many, in-a)) square.long in
    let long-b = all-at (λ row. length row ≡ n) columns b (omega (arith, many, in-b)) square.long in
    let f : List ℤ → ℤ = λ column. get_or column k (pos 0) in
    map-set f columns a (weighted (pos 1) (get_or columns a []) m (get_or columns b []))
    ∙ ap (set (map f columns) a) (get_or-weighted (pos 1) (get_or columns a []) m (get_or columns b []) k (omega (arith, long-a, below)) (omega (arith, long-b, below))
    ∙ ap₂ (λ (u v : ℤ). pos 1 *ℤ u +ℤ m *ℤ v) (sym (get_or-map f columns a [])) (sym (get_or-map f columns b [])))

across-skew : (n : ℕ) (columns : List (List ℤ)) (a b : ℕ) (m : ℤ) (y : List ℤ) → a < n → b < n → IsSquare n columns → length y ≡ n → across n (skew columns b a m) y ≡ across n columns (gained y a b m)
across-skew n columns a b m y in-a in-b square long =
    same-across n (skew columns b a m) columns y (gained y a b m) (square-skew n columns b a m in-b in-a square).long square.long (λ k below.
    let size = length-entries k columns in
    let many = square.many in
    ap (λ (l : List ℤ). dot l y) (entries-skew n k columns b a m in-b in-a below square)
    ∙ dot-gained (entries k columns) y a b m (omega (arith, size, many, in-a)) (omega (arith, size, many, in-b)) (omega (arith, size, many, long)))

pub IsInverse-skew : SkewKeepsInverse
IsInverse-skew n rows columns a b m in-a in-b apart inverse = record {
  rows_square = square-skew n rows a b m in-a in-b inverse.rows_square;
  columns_square = square-skew n columns b a (neg_ℤ m) in-b in-a inverse.columns_square;
  there = λ point long.
      let size = length-product rows point in
      let many = inverse.rows_square.many in
      let gains = length-gained (product rows point) a b m in
      ap (across n (skew columns b a (neg_ℤ m))) (product-skew n rows a b m point in-a in-b inverse.rows_square)
      ∙ across-skew n columns a b (neg_ℤ m) (gained (product rows point) a b m) in-a in-b inverse.columns_square (gains ∙ size ∙ many)
      ∙ ap (across n columns) (gained-lost (product rows point) a b m (neg_ℤ m) (omega (arith, size, many, in-a)) apart (back-again m))
      ∙ inverse.there point long;
  back = λ place long.
      let lost = length-gained place a b (neg_ℤ m) in
      ap (product (skew rows a b m)) (across-skew n columns a b (neg_ℤ m) place in-a in-b inverse.columns_square long)
      ∙ product-skew n rows a b m (across n columns (gained place a b (neg_ℤ m))) in-a in-b inverse.rows_square
      ∙ ap (λ (l : List ℤ). gained l a b m) (inverse.back (gained place a b (neg_ℤ m)) (lost ∙ long))
      ∙ gained-lost place a b (neg_ℤ m) m (omega (arith, long, in-a)) apart (forth-again m);
}

-- ---- an exchange

across-swap : (n : ℕ) (columns : List (List ℤ)) (a b : ℕ) (y : List ℤ) → a < n → b < n → IsSquare n columns → length y ≡ n → across n (swap columns a b) y ≡ across n columns (swap y a b)
unfolding entries
across-swap n columns a b y in-a in-b square long =
    same-across n (swap columns a b) columns y (swap y a b) (square-swap n columns a b in-a in-b square).long square.long (λ k below.
    let size = length-entries k columns in
    let many = square.many in
    ap (λ (l : List ℤ). dot l y) (map-swap (λ column. get_or column k (pos 0)) columns a b [] (omega (arith, many, in-a)) (omega (arith, many, in-b)))
    ∙ dot-swap (entries k columns) y a b (omega (arith, size, many, in-a)) (omega (arith, size, many, in-b)) (omega (arith, size, many, long)))

pub IsInverse-swap : SwapKeepsInverse
IsInverse-swap n rows columns a b in-a in-b inverse =
    let many = inverse.rows_square.many in
    record {
      rows_square = square-swap n rows a b in-a in-b inverse.rows_square;
      columns_square = square-swap n columns a b in-a in-b inverse.columns_square;
      there = λ point long.
          let size = length-product rows point in
          let again = length-swap (product rows point) a b in
          ap (across n (swap columns a b)) (map-swap (λ row. dot row point) rows a b [] (omega (arith, many, in-a)) (omega (arith, many, in-b)))
          ∙ across-swap n columns a b (swap (product rows point) a b) in-a in-b inverse.columns_square (again ∙ size ∙ many)
          ∙ ap (across n columns) (swap-twice (product rows point) a b (omega (arith, size, many, in-a)) (omega (arith, size, many, in-b)))
          ∙ inverse.there point long;
      back = λ place long.
          let once = length-swap place a b in
          ap (product (swap rows a b)) (across-swap n columns a b place in-a in-b inverse.columns_square long)
          ∙ map-swap (λ row. dot row (across n columns (swap place a b))) rows a b [] (omega (arith, many, in-a)) (omega (arith, many, in-b))
          ∙ ap (λ (l : List ℤ). swap l a b) (inverse.back (swap place a b) (once ∙ long))
          ∙ swap-twice place a b (omega (arith, long, in-a)) (omega (arith, long, in-b));
    }

-- ---- the unit matrix

unit-at : (n i k : ℕ) → i < n → k < n → get_or (unit_row n i) k (pos 0) ≡ get_or (unit_row n k) i (pos 0)
unit-at n i k in-i in-k = ⊎_elim
    (λ e. subst (λ (j : ℕ). get_or (unit_row n i) j (pos 0) ≡ get_or (unit_row n j) i (pos 0)) (sym e) refl)
    (λ apart.
    get_or-set_other (replicate n (pos 0)) i k (pos 1) (pos 0) apart ∙ get_or-replicate n k (pos 0) (pos 0) in-k
    ∙ sym (get_or-replicate n i (pos 0) (pos 0) in-i) ∙ sym (get_or-set_other (replicate n (pos 0)) k i (pos 1) (pos 0) (λ e. apart (sym e))))
    (cases_eq k i)

entries-identity : (n k : ℕ) → k < n → entries k (identity n) ≡ get_or (identity n) k []
unfolding entries
entries-identity n k below =
    let f : List ℤ → ℤ = λ row. get_or row k (pos 0) in
    let many = length-map-range_with_len (unit_row n) 0 n in
    let size = length-map (identity n) f in
    let unit = length-unit n k in
    ext_get_or (pos 0) (map f (identity n)) (unit_row n k) (size ∙ many ∙ sym unit) (λ i h.
    let inside : i < n = omega (arith, size, many, h) in
    get_or-map f (identity n) i [] ∙ ap f (row-at n i inside) ∙ unit-at n i k inside below)
    ∙ sym (row-at n k below)

across-identity : (n : ℕ) (y : List ℤ) → length y ≡ n → across n (identity n) y ≡ y
across-identity n y long =
    let square = square-identity n in
    let first = length-across n (identity n) y square.long in
    let second = length-product (identity n) y in
    let many = square.many in
    ext_get_or (pos 0) (across n (identity n) y) (product (identity n) y) (first ∙ sym (second ∙ many)) (λ k h.
    let below : k < n = omega (arith, first, h) in
    across-at n (identity n) y k square.long below ∙ ap (λ (l : List ℤ). dot l y) (entries-identity n k below) ∙ sym (product-at (identity n) y k))
    ∙ subst (λ (m : ℕ). product (identity m) y ≡ y) long (product-identity y)

pub IsInverse-identity : IdentityIsInverse
IsInverse-identity n = record {
  rows_square = square-identity n;
  columns_square = square-identity n;
  there = λ point long. ap (across n (identity n)) (subst (λ (m : ℕ). product (identity m) point ≡ point) long (product-identity point)) ∙ across-identity n point long;
  back = λ place long. ap (product (identity n)) (across-identity n place long) ∙ subst (λ (m : ℕ). product (identity m) place ≡ place) long (product-identity place);
}

-- ---- one to one and onto

pub inverted : InvertedIsOneToOneAndOnto
inverted = record {
  one = λ n rows columns inverse first second h k e. sym (inverse.there first h) ∙ ap (across n columns) e ∙ inverse.there second k;
  onto = λ n rows columns inverse place h. record {
    point = across n columns place;
    long = length-across n columns place inverse.columns_square.long;
    maps = inverse.back place h;
  };
}
