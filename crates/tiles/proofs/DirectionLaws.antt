-- The last direction of a schedule is a column of its inverse, so its numbers are small.
use Rattle.std.proofs.Common.{◌≡◌, refl, sym, ap, ◌∙◌, subst, ℕ, zero, suc, ◌<◌, ◌≤◌, ◌-◌, ◌^◌, ℤ, pos, ◌*ℤ◌, unsigned_abs, List, [], ◌∷◌, length, get_or, replicate, ⊎_elim, arith}
use Rattle.std.specs.List.{range_with_len}
use Rattle.std.proofs.Math.IntN.{+ℤ_idr, +ℤ_idl, *ℤ-zero}
use Rattle.std.proofs.lemmas.Bool.{cases_lt}
use Rattle.std.proofs.lemmas.Int.{ints}
use Rattle.std.proofs.lemmas.List.{length-map, take_all}
use Rattle.std.proofs.lemmas.List.FromFn.{length-range_with_len}
use Rattle.plain_lemmas.proofs.MembershipLaws.{All-from, All-has, map-has}
use Rattle.affine.specs.Forms.{AllWithinSize}
use Rattle.affine.specs.Inverses.{IsInverse}
use Rattle.affine.specs.Matrices.{HasSmallEntries, product, unit_row}
use Rattle.affine.specs.Sums.{dot}
use Rattle.affine.proofs.SumLaws.{dot-comm}
use Rattle.domain.specs.Tables.{IsTable}
use Rattle.domain.proofs.PointLaws.{dot-zeros}
use Rattle.transform.specs.Schedules.{IsSchedule, matrix}
use Rattle.transform.proofs.LineLaws.{place-product}
use Rattle.skeletons.specs.Cells.{Extent, IsLaunch}
use Rattle.skeletons.specs.Frames.{entries, transposed}
use Rattle.skeletons.specs.Runs.{IsDirection}
use Rattle.skeletons.proofs.FrameLaws.{transposed-small-from}
use Rattle.skeletons.proofs.SkeletonLaws.{there-of}

one-times : (x : ℤ) → x *ℤ pos 1 ≡ x
one-times x = omega (arith, ints)

dot-unit : (row : List ℤ) (m k : ℕ) → k < m → dot row (unit_row m k) ≡ get_or row k (pos 0)
dot-unit [] m k h = refl
dot-unit (x ∷ xs) zero k h = absurd (omega arith)
dot-unit (x ∷ xs) (suc m) zero h = rw (dot-comm xs (replicate m (pos 0)), dot-zeros m xs, one-times x, +ℤ_idr x) refl
dot-unit (x ∷ xs) (suc m) (suc k) h = rw (dot-unit xs m k (omega arith), *ℤ-zero x, +ℤ_idl (get_or xs k (pos 0))) refl

small-number : (row : List ℤ) (k : ℕ) → AllWithinSize (2 ^ 20) row → unsigned_abs (get_or row k (pos 0)) ≤ 2 ^ 20
small-number row k small = ⊎_elim (λ l. small k (pos 0) l) (λ l. subst (λ (z : ℤ). unsigned_abs z ≤ 2 ^ 20) (sym (past row k l)) (omega arith)) (cases_lt k (length row))
  where
    past : (xs : List ℤ) (k : ℕ) → length xs ≤ k → get_or xs k (pos 0) ≡ pos 0
    past [] k h = refl
    past (x ∷ xs) zero h = absurd (omega arith)
    past (x ∷ xs) (suc k) h = past xs k (omega arith)

small-units : (rows : List (List ℤ)) (m k : ℕ) → k < m → HasSmallEntries rows → AllWithinSize (2 ^ 20) (product rows (unit_row m k))
small-units rows m k h small = All-from (λ (z : ℤ). unsigned_abs z ≤ 2 ^ 20) (product rows (unit_row m k)) (λ z has.
    let (row, there, is) = map-has (λ (row : List ℤ). dot row (unit_row m k)) rows z has in
    subst (λ (w : ℤ). unsigned_abs w ≤ 2 ^ 20) (sym (is ∙ dot-unit row m k h)) (small-number row k (All-has (AllWithinSize (2 ^ 20)) rows row small there)))

pub direction-small : (n : ℕ) (e : Extent) (columns : List (List ℤ)) (direction : List ℤ) → 1 ≤ n → n ≤ 6 → IsTable n e.table → IsSchedule n e.schedule → IsLaunch e.table e.chunk
    → IsInverse n (matrix e.schedule) columns → HasSmallEntries columns → IsDirection n e.schedule direction → AllWithinSize (2 ^ 20) direction
direction-small n e columns direction some few table schedule launch inverse small last =
    subst (AllWithinSize (2 ^ 20)) (ap (product (transposed n columns)) (sym (place-product e.schedule direction ∙ last.maps)) ∙ there-of n e few table schedule launch columns inverse direction last.long)
    (small-units (transposed n columns) n (n - 1) (omega (arith, some)) (transposed-small-from n columns (transposed n columns) inverse.columns_square small size (take_all n (transposed n columns) (omega (arith, size)))))
  where
    size : length (transposed n columns) ≡ n
    size = length-map (range_with_len 0 n) (entries columns) ∙ length-range_with_len 0 n
