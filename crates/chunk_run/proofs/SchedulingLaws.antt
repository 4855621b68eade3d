-- Scheduling: the lists of a chunk's cells, one after another, are its scheduled list.
use Rattle.std.proofs.Common.{◌≡◌, refl, sym, ap, ◌∙◌, subst, ℤ, pos, List, [], ◌∷◌, Ordering, Less, Equal, Greater, int_cmp}
use Rattle.std.specs.List.{AllByRecursion}
use Rattle.std.specs.Ordering.{ordering_then}
use Rattle.std.specs.Cmp.Lexicographic.{slice_cmp}
use Rattle.std.proofs.lemmas.Cmp.{tied_itself, lists_total, int_cmp_total}
use Rattle.orders.specs.Orders.{Ordered, Differ, Across}
use Rattle.plain_lemmas.specs.Lists.{Has}
use Rattle.orders.specs.Tiles.{flat}
use Rattle.orders.proofs.ListLaws.{ordered-weaker}
use Rattle.plain_lemmas.proofs.MembershipLaws.{all-has, all-from, has-from-contains, contains-from-has}
use Rattle.orders.proofs.SortLaws.{flat-has, ordered-flat, never-itself}
use Rattle.domain.specs.Instances.{Instance, IsOriginal, padded}
use Rattle.transform.specs.Schedules.{wave, wide_lead, wide_tile}
use Rattle.dependence.specs.Laws.{ComesFirst, IsScheduled, key_at}
use Rattle.skeletons.specs.Cells.{Cell, Extent, LiesIn, Comes, CellComes, AreListsOf, AreCellsOf, cell_of, place_key}
use Rattle.chunk_run.proofs.KeyLaws.{cmp-key, same-itself}
use Rattle.chunk_run.proofs.CellListLaws.{ordered-into, cell-list, list-cell, flat-predicted}

-- what is compared first, decides
decides : (l w t p : Ordering) → ordering_then l (ordering_then w t) ≡ Less → ordering_then (ordering_then l w) (ordering_then t p) ≡ Less
decides Less w t p h = refl
decides Equal Less t p h = refl
decides Equal Equal Less p h = refl
decides Equal Equal Equal p h = absurd (cc)
decides Equal Equal Greater p h = absurd (cc)
decides Equal Greater t p h = absurd (cc)
decides Greater w t p h = absurd (cc)

tied : (l w t p : Ordering) → l ≡ Equal → w ≡ Equal → t ≡ Equal → ordering_then (ordering_then l w) (ordering_then t p) ≡ p
tied l w t p e f g = ap (λ (r : Ordering). ordering_then (ordering_then r w) (ordering_then t p)) e ∙ ap (λ (r : Ordering). ordering_then r (ordering_then t p)) f ∙ ap (λ (r : Ordering). ordering_then r p) g

module _ (e : Extent) where
  abbrev point : Instance → List ℤ
  point x = padded e.table x

  abbrev by-lead : Instance → Instance → Ordering
  by-lead x y = slice_cmp int_cmp (wide_lead e.schedule (point x)) (wide_lead e.schedule (point y))

  abbrev by-wave : Instance → Instance → Ordering
  by-wave x y = int_cmp (wave e.schedule (point x)) (wave e.schedule (point y))

  abbrev by-tile : Instance → Instance → Ordering
  by-tile x y = slice_cmp int_cmp (wide_tile e.schedule (point x)) (wide_tile e.schedule (point y))

  abbrev by_place : Instance → Instance → Ordering
  by_place x y = slice_cmp int_cmp (place_key e x) (place_key e y)

  -- in one cell the order is that by place and then by rank
  within-cell : (cell : Cell) (x y : Instance) → LiesIn e cell x → LiesIn e cell y → Comes e x y → ComesFirst e.table e.schedule x y
  within-cell cell x y f g h =
      let same : cell_of e.schedule (point x) ≡ cell_of e.schedule (point y) = f.inside ∙ sym g.inside in
      cmp-key e.schedule (point x) (point y) (pos x.block) (pos y.block)
      ∙ tied (by-lead x y) (by-wave x y) (by-tile x y) (by_place x y) (same-itself (wide_lead e.schedule (point x)) (wide_lead e.schedule (point y)) (ap (λ (c : Cell). c.lead) same))
      (subst (λ (z : ℤ). int_cmp (wave e.schedule (point x)) z ≡ Equal) (ap (λ (c : Cell). c.wave) same) (tied_itself int_cmp_total (wave e.schedule (point x))))
      (same-itself (wide_tile e.schedule (point x)) (wide_tile e.schedule (point y)) (ap (λ (c : Cell). c.tile) same))
      ∙ h

  -- and the cells are in the order of the phases and of the tiles
  across-cells : (c d : Cell) (x y : Instance) → CellComes c d → LiesIn e c x → LiesIn e d y → ComesFirst e.table e.schedule x y
  across-cells c d x y h f g =
      cmp-key e.schedule (point x) (point y) (pos x.block) (pos y.block)
      ∙ decides (by-lead x y) (by-wave x y) (by-tile x y) (by_place x y) (subst (λ (b : Cell). CellComes (cell_of e.schedule (point x)) b) (sym g.inside) (subst (λ (b : Cell). CellComes b d) (sym f.inside) h))

  each-ordered : (cells : List Cell) (lists : List (List Instance)) → AreListsOf e cells lists → AllByRecursion (Ordered (ComesFirst e.table e.schedule)) lists
  each-ordered [] [] f = tt
  each-ordered [] (xs ∷ lists) f = absurd f
  each-ordered (c ∷ cells) [] f = absurd f
  each-ordered (c ∷ cells) (xs ∷ lists) f =
      (ordered-into (Comes e) (ComesFirst e.table e.schedule) xs (λ x y h k. within-cell c x y ((f.0.has x).0 h) ((f.0.has y).0 k)) f.0.ordered, each-ordered cells lists f.1)

  across : (cells : List Cell) (lists : List (List Instance)) → Ordered CellComes cells → AreListsOf e cells lists → Ordered (Across (ComesFirst e.table e.schedule)) lists
  across [] [] ord f = tt
  across [] (xs ∷ lists) ord f = absurd f
  across (c ∷ cells) [] ord f = absurd f
  across (c ∷ cells) (xs ∷ lists) ord f = (
    all-from (Across (ComesFirst e.table e.schedule) xs) lists (λ ys there x y h k.
        let (d, found, is) = list-cell e cells lists ys f.1 there in
        across-cells c d x y (all-has (CellComes c) cells d ord.0 found) ((f.0.has x).0 h) ((is.has y).0 k)),
    across cells lists ord.1 f.1,
  )

  -- so no instance stands twice in the lists of cells in order
  pub lists-once : (cells : List Cell) (lists : List (List Instance)) → Ordered CellComes cells → AreListsOf e cells lists → Ordered Differ (flat lists)
  lists-once cells lists ord f =
      ordered-weaker (ComesFirst e.table e.schedule) Differ (λ x y less same. itself x (subst (ComesFirst e.table e.schedule x) (sym same) less)) (flat lists)
      (ordered-flat (ComesFirst e.table e.schedule) lists (each-ordered cells lists f) (across cells lists ord f))
    where
      itself : (x : Instance) → ComesFirst e.table e.schedule x x → ⊥
      itself x less = never-itself (slice_cmp int_cmp) (lists_total int_cmp_total) (key_at e.table e.schedule) x less

  pub lists-scheduled : (xs : List Instance) (cells : List Cell) (lists : List (List Instance)) → IsOriginal e.table e.chunk xs → AreCellsOf e cells → AreListsOf e cells lists → IsScheduled e.table e.schedule xs (flat lists)
  lists-scheduled xs cells lists original are f = record {
    ordered = ordered-flat (ComesFirst e.table e.schedule) lists (each-ordered cells lists f) (across cells lists are.ordered f);
    same = record { there = there; back = λ x h. has-from-contains xs x ((original.has x).1 (flat-predicted e cells lists x f h)) };
  }
    where
      there : (x : Instance) → Has xs x → Has (flat lists) x
      there x h =
          let lies : LiesIn e (cell_of e.schedule (point x)) x = record { predicted = (original.has x).0 (contains-from-has xs x h); inside = refl } in
          let (ys, found, is) = cell-list e cells lists (cell_of e.schedule (point x)) f ((are.has (cell_of e.schedule (point x))).1 (x, lies)) in
          flat-has lists ys x found ((is.has x).1 lies)
