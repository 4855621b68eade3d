-- The plan of a phase is separate: instances in different tiles of one phase don't conflict.
use Rattle.std.proofs.Common.{◌≡◌, ◌≢◌, refl, sym, ap, ap₂, ◌∙◌, subst, ℕ, zero, suc, ℤ, pos, ◌+◌, ◌-◌, Bool, true, false, true≢false, ◌||◌, Some, List, [], ◌∷◌, ◌++◌, length, replicate, ◌⊎◌, inl, inr, ⊎_elim, arith, length-append}
use Rattle.std.specs.Prelude.{Contains, slice_get, slice_index_or}
use Rattle.std.proofs.lemmas.Bool.{false_from_ne_true, or_cases}
use Rattle.std.proofs.lemmas.Int.{ints}
use Rattle.std.proofs.lemmas.List.{append_cancel_right, length-map, length-replicate}
use Rattle.core_steps.specs.declared.plan.Tile.{Tile}
use Rattle.core_steps.specs.Numbers.{has}
use Rattle.core_steps.specs.Plans.{IsInside, IsSeparate, no_tile, touches_of, writes_of}
use Rattle.core_steps.proofs.NumberListLaws.{has-cons}
use Rattle.orders.specs.Orders.{Ordered}
use Rattle.plain_lemmas.specs.Lists.{Has}
use Rattle.plain_lemmas.proofs.MembershipLaws.{all-has, contains-from-has}
use Rattle.domain.specs.Tables.{IsTable}
use Rattle.domain.specs.Instances.{Instance, padded}
use Rattle.domain.specs.Footprints.{Conflict}
use Rattle.domain.proofs.LaunchedLaws.{launched_words}
use Rattle.dependence.specs.Laws.{IsShortLaunch}
use Rattle.dependence.proofs.ScheduleLaws.{tiles_apart}
use Rattle.dependence.proofs.VerdictLaws.{legal_is_unmet}
use Rattle.transform.specs.Schedules.{IsSchedule, Schedule, lead, tile, wave, wide_lead, wide_tile, leading, along}
use Rattle.skeletons.specs.Cells.{Cell, CellComes, Extent, LiesIn, cell_of}
use Rattle.tiles.specs.Plans.{AreTilesOf, CellReads, CellWrites, IsOnePhase, IsPlannable, IsTileOf, Phase, phase_key}
use Rattle.tiles.proofs.CountLaws.{cell-itself}
use Rattle.tiles.proofs.GroupLaws.{key-apart}
use Rattle.tiles.proofs.StripLaws.{slice_get-has}

-- ---- numbers of a cell

pub length-wide : (s : Schedule) (p : List ℤ) → length (wide_lead s p) ≡ length (leading s) + (length s.lines - s.seq)
length-wide s p = length-append (lead s p) (replicate (length s.lines - s.seq) (pos 0)) ∙ ap₂ (λ (a b : ℕ). a + b) (length-map (leading s) (along p)) (length-replicate (length s.lines - s.seq) (pos 0))

-- ---- tiles of a plan

has-contains : (a : ℕ) (xs : List ℕ) → has a xs ≡ true → Contains xs a
has-contains a xs h = contains-from-has xs a (by xs h)
  where
    by : (xs : List ℕ) → has a xs ≡ true → Has xs a
    by [] h = absurd (true≢false (sym h))
    by (x ∷ xs) h = ⊎_elim (λ e. inl e) (λ k. inr (by xs k)) (has-cons a x xs h)

-- the cell of a tile that touches something
pub record HasCell (e : Extent) (words : ℕ) (cells : List Cell) (k : ℕ) (t : Tile) : Type 0 where
  pub cell : Cell
  pub at : slice_get cells k ≡ Some cell
  pub is : IsTileOf e words cell t

tile-cell : (e : Extent) (words : ℕ) (cells : List Cell) (tiles : List Tile) (k : ℕ) (a : ℕ) → AreTilesOf e words cells tiles → touches_of (slice_index_or tiles k no_tile) a ≡ true → HasCell e words cells k (slice_index_or tiles k no_tile)
tile-cell e words [] [] k a all h = absurd (true≢false (sym h))
tile-cell e words [] (t ∷ tiles) k a all h = absurd all
tile-cell e words (c ∷ cells) [] k a all h = absurd all
tile-cell e words (c ∷ cells) (t ∷ tiles) zero a all h = record { cell = c; at = refl; is = all.0 }
tile-cell e words (c ∷ cells) (t ∷ tiles) (suc k) a all h = let r = tile-cell e words cells tiles k a all.1 h in record { cell = r.cell; at = r.at; is = r.is }

-- cells in order are different ones
cells-apart : (cells : List Cell) (j k : ℕ) (c d : Cell) → Ordered CellComes cells → slice_get cells j ≡ Some c → slice_get cells k ≡ Some d → j ≢ k → c ≡ d → ⊥
cells-apart [] zero k c d ord e f other same = absurd (cc)
cells-apart [] (suc j) k c d ord e f other same = absurd (cc)
cells-apart (x ∷ cells) zero zero c d ord e f other same = other refl
cells-apart (x ∷ cells) zero (suc k) c d ord e f other same =
    let first : x ≡ c = cc in
    cell-itself x (subst (CellComes x) (sym (first ∙ same)) (all-has (CellComes x) cells d ord.0 (slice_get-has cells k d f)))
cells-apart (x ∷ cells) (suc j) zero c d ord e f other same =
    let first : x ≡ d = cc in
    cell-itself x (subst (CellComes x) (sym (first ∙ sym same)) (all-has (CellComes x) cells c ord.0 (slice_get-has cells j c e)))
cells-apart (x ∷ cells) (suc j) (suc k) c d ord e f other same = cells-apart cells j k c d ord.1 e f (λ h. other (ap suc h)) same

writes-touch : (t : Tile) (a : ℕ) → writes_of t a ≡ true → touches_of t a ≡ true
writes-touch t a h = by (has a t.reads)
  where
    by : (b : Bool) → (b || has a t.writes) ≡ true
    by true = refl
    by false = h

module _ (n : ℕ) (e : Extent) (words : ℕ) (table : IsTable n e.table) (schedule : IsSchedule n e.schedule) (can : IsPlannable e.table e.schedule e.chunk words) where
  short : IsShortLaunch e.table can.most (pos words) e.chunk
  short = record { first = can.first; turns = can.turns; instances = can.instances; launched = can.launched }

  -- instances of different cells with one phase key don't conflict
  others-apart : (c d : Cell) (x y : Instance) → LiesIn e c x → LiesIn e d y → phase_key c ≡ phase_key d → (c ≡ d → ⊥) → Conflict e.table (pos words) x y → ⊥
  others-apart c d x y lies there key other =
      tiles_apart n e.table can.most (pos words) e.schedule e.chunk x y table schedule (legal_is_unmet e.table e.schedule can.most can.legal) short lies.predicted there.predicted (record {
        phase = ap₂ (λ (l : List ℤ) (w : ℤ). l ++ w ∷ []) leads waves;
        tile = λ same. other (sym lies.inside ∙ cells same ∙ there.inside);
      })
    where
      p : List ℤ
      p = padded e.table x

      q : List ℤ
      q = padded e.table y

      parts : (c.lead ≡ d.lead) × (c.wave ≡ d.wave)
      parts = key-apart c d (ap (λ (z : Cell). length z.lead) (sym lies.inside) ∙ long ∙ ap (λ (z : Cell). length z.lead) there.inside) key
        where
          long : length (wide_lead e.schedule p) ≡ length (wide_lead e.schedule q)
          long = length-wide e.schedule p ∙ sym (length-wide e.schedule q)

      wides : wide_lead e.schedule p ≡ wide_lead e.schedule q
      wides = ap (λ (z : Cell). z.lead) lies.inside ∙ parts.0 ∙ sym (ap (λ (z : Cell). z.lead) there.inside)

      leads : lead e.schedule p ≡ lead e.schedule q
      leads = append_cancel_right (lead e.schedule p) (lead e.schedule q) (replicate (length e.schedule.lines - e.schedule.seq) (pos 0)) wides

      waves : wave e.schedule p ≡ wave e.schedule q
      waves = ap (λ (z : Cell). z.wave) lies.inside ∙ parts.1 ∙ sym (ap (λ (z : Cell). z.wave) there.inside)

      cells : tile e.schedule p ≡ tile e.schedule q → cell_of e.schedule p ≡ cell_of e.schedule q
      cells same =
          ap₂ (λ (l t : List ℤ). record { lead = l; wave = wave e.schedule p; tile = t }) wides (ap (λ (t : List ℤ). replicate e.schedule.seq (pos 0) ++ t) same)
          ∙ ap (λ (w : ℤ). record { lead = wide_lead e.schedule q; wave = w; tile = wide_tile e.schedule q }) waves

  -- the words of a tile
  tile-writes : (c : Cell) (t : Tile) (a : ℕ) → IsTileOf e words c t → writes_of t a ≡ true → CellWrites e c (pos a)
  tile-writes c t a is h = (is.writes.has a).0 (has-contains a t.writes h)

  tile-touches : (c : Cell) (t : Tile) (a : ℕ) → IsTileOf e words c t → touches_of t a ≡ true → CellReads e words c (pos a) ⊎ CellWrites e c (pos a)
  tile-touches c t a is h = ⊎_elim (λ k. inl ((is.reads.has a).0 (has-contains a t.reads k))) (λ k. inr ((is.writes.has a).0 (has-contains a t.writes k))) (or_cases (has a t.reads) (has a t.writes) h)

  pub separate : (p : Phase) → IsOnePhase p → AreTilesOf e words p.cells p.plan.tiles → Ordered CellComes p.cells → IsSeparate p.plan
  separate p one all ord j k other a w = false_from_ne_true (touches_of (slice_index_or p.plan.tiles k no_tile) a) (λ h.
      let first = tile-cell e words p.cells p.plan.tiles j a all (writes-touch (slice_index_or p.plan.tiles j no_tile) a w) in
      let second = tile-cell e words p.cells p.plan.tiles k a all h in
      let x = tile-writes first.cell (slice_index_or p.plan.tiles j no_tile) a first.is w in
      let key = one.one first.cell second.cell (slice_get-has p.cells j first.cell first.at) (slice_get-has p.cells k second.cell second.at) in
      let different = cells-apart p.cells j k first.cell second.cell ord first.at second.at other in
      ⊎_elim
      (λ r. others-apart first.cell second.cell x.at r.at x.lies r.lies key different (pos a, inl (x.writes, inl r.reads)))
      (λ y. others-apart first.cell second.cell x.at y.at x.lies y.lies key different (pos a, inl (x.writes, inr y.writes)))
      (tile-touches second.cell (slice_index_or p.plan.tiles k no_tile) a second.is h))

  pub inside : (p : Phase) → AreTilesOf e words p.cells p.plan.tiles → IsInside words p.plan
  inside p all k a h =
      let found = tile-cell e words p.cells p.plan.tiles k a all h in
      ⊎_elim
      (λ r. let word = r.reads.2 in omega (arith, ints, word))
      (λ w. let word = (launched_words e.table (pos words) e.chunk can.instances can.launched w.at w.lies.predicted (pos a) w.writes).1 in omega (arith, ints, word))
      (tile-touches found.cell (slice_index_or p.plan.tiles k no_tile) a found.is h)
