-- The scans of the blocks of a launched chunk find their places.
use Rattle.std.proofs.Common.{◌≡◌, refl, sym, ap, ◌∙◌, subst, ℕ, suc, ◌<◌, ◌≤◌, ◌+◌, ℤ, List, [], ◌∷◌, ◌++◌, length, get_or, arith}
use Rattle.std.specs.Prelude.{◌↔◌}
use Rattle.std.specs.List.{All, AllByRecursion}
use Rattle.affine.specs.Inverses.{across, IsInverse}
use Rattle.affine.specs.Matrices.{product}
use Rattle.affine.specs.Rows.{Meets}
use Rattle.affine.specs.declared.row.Row.{Row}
use Rattle.affine.proofs.InverseLaws.{length-across}
use Rattle.fourier_motzkin.specs.Ranges.{IsOpen}
use Rattle.fourier_motzkin.specs.RowSets.{tidied}
use Rattle.fourier_motzkin.specs.Elimination.{judged}
use Rattle.fourier_motzkin.specs.Verdicts.{Bounds, bounds_of, verdict_of}
use Rattle.fourier_motzkin.specs.declared.verdicts.Ruling.TheVariants.{Empty, Maybe}
use Rattle.fourier_motzkin.proofs.MaybeLaws.{bounded_levels_close}
use Rattle.fourier_motzkin.proofs.PointLaws.{verdict-unmet}
use Rattle.fourier_motzkin.proofs.EliminationRunLaws.{length-levels}
use Rattle.domain.specs.Tables.{Block, Table, block_at, IsTable}
use Rattle.domain.specs.Instances.{counter, padded}
use Rattle.transform.specs.Schedules.{IsSchedule, matrix, place}
use Rattle.transform.proofs.LineLaws.{place-product}
use Rattle.level_walk.specs.declared.scans.BlockScan.{BlockScan}
use Rattle.level_walk.specs.declared.scans.Scanning.{Scanning}
use Rattle.level_walk.specs.Walks.{IsBlock, IsScanning}
use Rattle.skeletons.specs.Cells.{Extent, IsLaunch}
use Rattle.skeletons.specs.Frames.{AllFind, Finds, IsPlaceOf, transposed}
use Rattle.skeletons.specs.Places.{Lies}
use Rattle.skeletons.specs.Scans.{IsNear, IsRowsTo}
use Rattle.domain.specs.declared.chunk.Chunk.{Chunk}
use Rattle.fourier_motzkin.specs.Elimination.{AllOver}
use Rattle.skeletons.proofs.BlockLaws.{length-padded, lie-points, points-lie}
use Rattle.skeletons.proofs.FrameLaws.{product-transposed}
use Rattle.skeletons.proofs.ListLaws.{near-places-of}
use Rattle.skeletons.proofs.BoxLaws.{length-place}

module _ (n : ℕ) (e : Extent) (few : n ≤ 6) (table : IsTable n e.table) (schedule : IsSchedule n e.schedule) (launch : IsLaunch e.table e.chunk) (columns : List (List ℤ)) (inverse : IsInverse n (matrix e.schedule) columns) where
  pub there-of : (p : List ℤ) → length p ≡ n → product (transposed n columns) (place e.schedule p) ≡ p
  there-of p long =
      product-transposed n columns (place e.schedule p) inverse.columns_square (length-place n e.schedule schedule p)
      ∙ ap (across n columns) (place-product e.schedule p) ∙ inverse.there p long

  deep-across : (z : List ℤ) → across (length e.table.levels) columns z ≡ across n columns z
  deep-across z = ap (λ (m : ℕ). across m columns z) table.deep

  pub rows-find : (rank : ℕ) (rows : List Row) → rank < length e.table.blocks → IsRowsTo n e.table e.chunk (block_at e.table rank) columns n rows → (z : List ℤ) → length z ≡ n → All (Meets z) rows ↔ IsPlaceOf e rank z
  rows-find rank rows inside is z long = (
    λ met.
        let lies = (is.meets z long).0 met in
        let p = across (length e.table.levels) columns z in
        let size : length p ≡ n = ap length (deep-across z) ∙ length-across n columns z inverse.columns_square.long in
        let point = lie-points n e.table table e.chunk launch rank p inside size (λ k l. let d = table.deep in let at = lies k (omega (arith, l, d)) in (at.from, at.to)) in
        record {
          at = point.at;
          predicted = point.predicted;
          block = point.block;
          there = ap (place e.schedule) point.there ∙ ap (place e.schedule) (deep-across z) ∙ place-product e.schedule (across n columns z) ∙ inverse.back z long;
        },
    λ h.
        let q = padded e.table h.at in
        let same : across (length e.table.levels) columns z ≡ q =
        deep-across z ∙ ap (across n columns) (sym h.there ∙ place-product e.schedule q) ∙ inverse.there q (length-padded e.table h.at ∙ table.deep) in
        let lies = subst (λ (r : ℕ). Lies e.table e.chunk (block_at e.table r) q) h.block (points-lie n e.table table e.chunk launch h.at h.predicted) in
        let moved = subst (λ (p : List ℤ). Lies e.table e.chunk (block_at e.table rank) p) (sym same) lies in
        (is.meets z long).1 (λ k l.
        let both = moved k (let d = table.deep in omega (arith, l, d)) in
        record {
          near = subst (λ (w : List ℤ). IsNear (counter w k)) h.there (near-places-of n e few table schedule launch h.at h.predicted k l);
          from = both.0;
          to = both.1;
        }),
  )

-- ---- what the elimination gives

pub length-bounds : (n : ℕ) (rows : List Row) → length (bounds_of n rows).levels ≡ n
unfolding bounds_of
length-bounds n rows = length-levels n (judged (tidied rows))

verdict-is : (n : ℕ) (rows : List Row) → (bounds_of n rows).verdict ≡ verdict_of n rows
unfolding bounds_of
verdict-is n rows = refl

pub scanning : (n : ℕ) (t : Table) (chunk : Chunk) (b : Block) (columns : List (List ℤ)) (scan : Bounds) (block : Scanning) → 1 ≤ n → n ≤ 6 → IsRowsTo n t chunk b columns n block.rows.items → block.scan ≡ bounds_of n block.rows.items
    → block.scan.verdict ≡ Maybe → IsScanning n block
scanning n t chunk b columns scan block some few rows is maybe = record {
  some = some;
  few = few;
  levels = size;
  over = subst (λ (m : ℕ). AllOver m block.rows.items) (sym size) rows.over;
  is = is ∙ ap (λ (m : ℕ). bounds_of m block.rows.items) (sym size);
  closed = λ k l o.
      let h = rows.boxed k (omega (arith, l, size)) in
      bounded_levels_close n block.rows.items k h.lower h.upper (sym (verdict-is n block.rows.items) ∙ ap (λ (v : Bounds). v.verdict) (sym is) ∙ maybe) (omega (arith, l, size))
      h.has_lower h.alone_lower h.side_lower h.has_upper h.alone_upper h.side_upper
      (subst (λ (v : Bounds). IsOpen k (get_or v.levels k [])) is o);
}
  where
    size : length block.scan.levels ≡ n
    size = ap (λ (v : Bounds). length v.levels) is ∙ length-bounds n block.rows.items

pub nothing-found : (n : ℕ) (e : Extent) (rank : ℕ) (rows : List Row) (scan : Bounds) → AllOver n rows → scan ≡ bounds_of n rows → scan.verdict ≡ Empty
    → ((z : List ℤ) → length z ≡ n → All (Meets z) rows ↔ IsPlaceOf e rank z) → ((z : List ℤ) → IsPlaceOf e rank z → length z ≡ n) → (z : List ℤ) → IsPlaceOf e rank z → ⊥
nothing-found n e rank rows scan over is empty finds long z h =
    verdict-unmet n rows z over (sym (verdict-is n rows) ∙ ap (λ (v : Bounds). v.verdict) (sym is) ∙ empty) ((finds z (long z h)).1 h)

-- ---- one block more

pub find-more : (n : ℕ) (e : Extent) (q : ℕ) (bs : List BlockScan) (b : BlockScan) → AllFind n e q bs → Finds n e (q + length bs) b → AllFind n e q (bs ++ b ∷ [])
find-more n e q [] b finds one = (subst (λ (r : ℕ). Finds n e r b) (let z : q + 0 ≡ q = omega arith in z) one, tt)
find-more n e q (c ∷ bs) b finds one = (finds.0, find-more n e (suc q) bs b finds.1 (subst (λ (r : ℕ). Finds n e r b) (let z : q + suc (length bs) ≡ suc q + length bs = omega arith in z) one))

pub block-more : (n : ℕ) (bs : List BlockScan) (b : BlockScan) → AllByRecursion (IsBlock n) bs → IsBlock n b → AllByRecursion (IsBlock n) (bs ++ b ∷ [])
block-more n [] b all one = (one, tt)
block-more n (c ∷ bs) b all one = (all.0, block-more n bs b all.1 one)
