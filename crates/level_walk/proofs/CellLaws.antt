-- Ranges of a scan in the box of a cell.
use Rattle.std.proofs.Common.{◌≡◌, ℕ, zero, suc, ◌+◌, ◌<◌, ℤ, pos, ◌≤ℤ◌, int_lt, Bool, true, false, not, ◌&&◌, List, [], ◌∷◌, ◌++◌, length, get_or, refl, inl, inr, arith}
use Rattle.std.specs.Prelude.{◌⊎◌}
use Rattle.std.specs.List.{AllByRecursion}
use Rattle.std.proofs.lemmas.Int.{ints}
use Rattle.affine.specs.declared.row.Row.{Row}
use Rattle.fourier_motzkin.specs.Ranges.{Allowed, IsOpen, IsRange}
use Rattle.fourier_motzkin.specs.Verdicts.{Bounds}
use Rattle.level_walk.specs.Fronts.{IsExact}
use Rattle.level_walk.specs.Lattices.{FitsCell, HIGHEST, IsPart, LOWEST, in_box, in_cell, meets_all}
use Rattle.level_walk.specs.Spaces.{HasNone, IsWithin, MissesNone}
use Rattle.level_walk.proofs.LatticeLaws.{allowed-value, exact-value}

both-first : (a b : Bool) → (a && b) ≡ true → a ≡ true
both-first true b h = refl
both-first false b h = h

both-second : (a b : Bool) → (a && b) ≡ true → b ≡ true
both-second true b h = h
both-second false b h = cc

not-less : (x y : ℤ) → not (int_lt x y) ≡ true → y ≤ℤ x
not-less x y h = grind (arith, ints)

is-not-less : (x y : ℤ) → y ≤ℤ x → not (int_lt x y) ≡ true
is-not-less x y h = grind (arith, ints)

-- the box at one level

pub box-at : (lows highs outer rest : List ℤ) (value d e : ℤ) → in_box lows highs (outer ++ value ∷ rest) ≡ true → (get_or lows (length outer) d ≤ℤ value) × (value ≤ℤ get_or highs (length outer) e)
box-at [] highs [] rest value d e h = absurd (let wrong : false ≡ true = h in cc)
box-at (l ∷ lows) [] [] rest value d e h = absurd (let wrong : false ≡ true = h in cc)
box-at (l ∷ lows) (t ∷ highs) [] rest value d e h =
    let here = both-first (not (int_lt value l) && not (int_lt t value)) (in_box lows highs rest) h in
    (not-less value l (both-first (not (int_lt value l)) (not (int_lt t value)) here), not-less t value (both-second (not (int_lt value l)) (not (int_lt t value)) here))
box-at [] highs (x ∷ outer) rest value d e h = absurd (let wrong : false ≡ true = h in cc)
box-at (l ∷ lows) [] (x ∷ outer) rest value d e h = absurd (let wrong : false ≡ true = h in cc)
box-at (l ∷ lows) (t ∷ highs) (x ∷ outer) rest value d e h = box-at lows highs outer rest value d e (both-second (not (int_lt x l) && not (int_lt t x)) (in_box lows highs (outer ++ value ∷ rest)) h)

pub box-front : (lows highs outer rest : List ℤ) → in_box lows highs (outer ++ rest) ≡ true → in_box lows highs outer ≡ true
box-front lows highs [] rest h = refl
box-front [] highs (x ∷ outer) rest h = h
box-front (l ∷ lows) [] (x ∷ outer) rest h = h
box-front (l ∷ lows) (t ∷ highs) (x ∷ outer) rest h =
    both (not (int_lt x l) && not (int_lt t x)) (in_box lows highs outer) (both-first (not (int_lt x l) && not (int_lt t x)) (in_box lows highs (outer ++ rest)) h)
    (box-front lows highs outer rest (both-second (not (int_lt x l) && not (int_lt t x)) (in_box lows highs (outer ++ rest)) h))
  where
    both : (a b : Bool) → a ≡ true → b ≡ true → (a && b) ≡ true
    both a b e f = rw (e, f) refl

pub box-more : (lows highs outer : List ℤ) (value d e : ℤ) → length outer < length lows → length outer < length highs → in_box lows highs outer ≡ true → get_or lows (length outer) d ≤ℤ value → value ≤ℤ get_or highs (length outer) e → in_box lows highs (outer ++ value ∷ []) ≡ true
box-more [] highs [] value d e in-lows in-highs h a b = absurd (omega arith)
box-more (l ∷ lows) [] [] value d e in-lows in-highs h a b = absurd (omega arith)
box-more (l ∷ lows) (t ∷ highs) [] value d e in-lows in-highs h a b = three (not (int_lt value l)) (not (int_lt t value)) (is-not-less value l a) (is-not-less t value b)
  where
    three : (x y : Bool) → x ≡ true → y ≡ true → ((x && y) && true) ≡ true
    three x y p q = rw (p, q) refl
box-more [] highs (x ∷ outer) value d e in-lows in-highs h a b = absurd (omega arith)
box-more (l ∷ lows) [] (x ∷ outer) value d e in-lows in-highs h a b = absurd (omega arith)
box-more (l ∷ lows) (t ∷ highs) (x ∷ outer) value d e in-lows in-highs h a b =
    both (not (int_lt x l) && not (int_lt t x)) (in_box lows highs (outer ++ value ∷ [])) (both-first (not (int_lt x l) && not (int_lt t x)) (in_box lows highs outer) h)
    (box-more lows highs outer value d e (omega arith) (omega arith) (both-second (not (int_lt x l) && not (int_lt t x)) (in_box lows highs outer) h) a b)
  where
    both : (a b : Bool) → a ≡ true → b ≡ true → (a && b) ≡ true
    both a b e f = rw (e, f) refl

pub box-next : (x l t : ℤ) (lows highs values : List ℤ) → l ≤ℤ x → x ≤ℤ t → in_box (l ∷ lows) (t ∷ highs) (x ∷ values) ≡ in_box lows highs values
box-next x l t lows highs values a b = three (not (int_lt x l)) (not (int_lt t x)) (in_box lows highs values) (is-not-less x l a) (is-not-less t x b)
  where
    three : (x y z : Bool) → x ≡ true → y ≡ true → ((x && y) && z) ≡ z
    three x y z p q = rw (p, q) refl

within-at : (P : ℤ → Type 0) (xs : List ℤ) (k : ℕ) (d : ℤ) → AllByRecursion P xs → k < length xs → P (get_or xs k d)
within-at P [] k d all inside = absurd (omega arith)
within-at P (x ∷ xs) zero d all inside = all.0
within-at P (x ∷ xs) (suc k) d all inside = within-at P xs k d all.1 (omega arith)

pub cell-misses : (scan : Bounds) (rows : List Row) (lows highs outer : List ℤ) (least greatest low high : ℤ) → FitsCell scan rows lows highs → length outer < length scan.levels
    → IsRange (Allowed (get_or scan.levels (length outer) []) outer) least greatest → IsPart (get_or lows (length outer) (pos 0)) (get_or highs (length outer) (pos 0)) least greatest low high
    → MissesNone (in_cell (length scan.levels) rows lows highs) outer low high
cell-misses scan rows lows highs outer least greatest low high fits below range part =
    let long_lows = fits.long_lows in
    let long_highs = fits.long_highs in
    let bottom = (within-at (IsWithin LOWEST HIGHEST) lows (length outer) (pos 0) fits.lows_within (omega (arith, long_lows, below))).least in
    let top = (within-at (IsWithin LOWEST HIGHEST) highs (length outer) (pos 0) fits.highs_within (omega (arith, long_highs, below))).greatest in
    let a = part.above_bottom in
    let b = part.below_top in
    let some = part.some in
    record {
      low_within = record { least = omega (arith, ints, bottom, a); greatest = omega (arith, ints, top, b, some) };
      high_within = record { least = omega (arith, ints, bottom, a, some); greatest = omega (arith, ints, top, b) };
      some = some;
      holds = λ value rest long within is.
          let met = both-first (meets_all rows (outer ++ value ∷ rest)) (in_box lows highs (outer ++ value ∷ rest)) is in
          let boxed = box-at lows highs outer rest value (pos 0) (pos 0) (both-second (meets_all rows (outer ++ value ∷ rest)) (in_box lows highs (outer ++ value ∷ rest)) is) in
          let (c, d) = (range.within value).0 (allowed-value scan rows lows highs outer rest value fits long met) in
          part.all value boxed.0 boxed.1 c d;
    }

pub cell-exact : (scan : Bounds) (rows : List Row) (lows highs outer : List ℤ) (least greatest low high : ℤ) → FitsCell scan rows lows highs → in_box lows highs outer ≡ true
    → IsRange (Allowed (get_or scan.levels (length outer) []) outer) least greatest → IsPart (get_or lows (length outer) (pos 0)) (get_or highs (length outer) (pos 0)) least greatest low high
    → length outer + 1 ≡ length scan.levels → IsExact (in_cell (length scan.levels) rows lows highs) outer low high
cell-exact scan rows lows highs outer least greatest low high fits boxed range part last =
    let long_lows = fits.long_lows in
    let long_highs = fits.long_highs in
    let bottom = part.above_bottom in
    let top = part.below_top in
    let under = part.above_least in
    let over = part.below_greatest in
    record {
      accepts = λ value a b.
          let met = exact-value scan rows lows highs outer value fits last ((range.within value).1 (omega (arith, ints, a, under), omega (arith, ints, b, over))) in
          let more = box-more lows highs outer value (pos 0) (pos 0) (omega (arith, long_lows, last)) (omega (arith, long_highs, last)) boxed (omega (arith, ints, a, bottom)) (omega (arith, ints, b, top)) in
          both (meets_all rows (outer ++ value ∷ [])) (in_box lows highs (outer ++ value ∷ [])) met more;
    }
  where
    both : (a b : Bool) → a ≡ true → b ≡ true → (a && b) ≡ true
    both a b e f = rw (e, f) refl

pub cell-outside : (scan : Bounds) (rows : List Row) (lows highs outer : List ℤ) → in_box lows highs outer ≡ false → HasNone (in_cell (length scan.levels) rows lows highs) outer
cell-outside scan rows lows highs outer no-box value rest long within is =
    let boxed = box-front lows highs outer (value ∷ rest) (both-second (meets_all rows (outer ++ value ∷ rest)) (in_box lows highs (outer ++ value ∷ rest)) is) in
    cc

pub cell-none : (scan : Bounds) (rows : List Row) (lows highs outer : List ℤ) → FitsCell scan rows lows highs → length outer < length scan.levels
    → (((value : ℤ) → Allowed (get_or scan.levels (length outer) []) outer value → ⊥) ⊎ IsOpen (length outer) (get_or scan.levels (length outer) [])) → HasNone (in_cell (length scan.levels) rows lows highs) outer
cell-none scan rows lows highs outer fits below (inl none) value rest long within is =
    none value (allowed-value scan rows lows highs outer rest value fits long (both-first (meets_all rows (outer ++ value ∷ rest)) (in_box lows highs (outer ++ value ∷ rest)) is))
cell-none scan rows lows highs outer fits below (inr open_) value rest long within is = fits.closed (length outer) below open_

pub cell-no-part : (scan : Bounds) (rows : List Row) (lows highs outer : List ℤ) (least greatest : ℤ) → FitsCell scan rows lows highs
    → IsRange (Allowed (get_or scan.levels (length outer) []) outer) least greatest
    → ((value : ℤ) → get_or lows (length outer) (pos 0) ≤ℤ value → value ≤ℤ get_or highs (length outer) (pos 0) → least ≤ℤ value → value ≤ℤ greatest → ⊥) → HasNone (in_cell (length scan.levels) rows lows highs) outer
cell-no-part scan rows lows highs outer least greatest fits range none value rest long within is =
    let met = both-first (meets_all rows (outer ++ value ∷ rest)) (in_box lows highs (outer ++ value ∷ rest)) is in
    let boxed = box-at lows highs outer rest value (pos 0) (pos 0) (both-second (meets_all rows (outer ++ value ∷ rest)) (in_box lows highs (outer ++ value ∷ rest)) is) in
    let (c, d) = (range.within value).0 (allowed-value scan rows lows highs outer rest value fits long met) in
    none value boxed.0 boxed.1 c d
