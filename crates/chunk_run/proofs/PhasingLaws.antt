-- Phasing: the phases of a plan have the phase keys of a chunk, one each, and a tile for each of its cells.
use Rattle.std.proofs.Common.{◌≡◌, refl, sym, ap, ap₂, ◌∙◌, subst, ◌≤◌, inl, inr, ⊎_elim, ◌⊎◌, ℕ, ℤ, List, [], ◌∷◌, ◌++◌, map, length, Less, int_cmp, arith}
use Rattle.std.specs.Prelude.{◌↔◌}
use Rattle.std.specs.List.{AllByRecursion}
use Rattle.std.specs.Cmp.Lexicographic.{slice_cmp}
use Rattle.std.proofs.lemmas.Cmp.{lists_total, int_cmp_total}
use Rattle.std.proofs.lemmas.Grind.{flat_map-append}
use Rattle.orders.specs.Orders.{Ordered, Differ}
use Rattle.plain_lemmas.specs.Lists.{Has}
use Rattle.orders.proofs.ListLaws.{has-split, ordered-across, ordered-right, ordered-weaker}
use Rattle.plain_lemmas.proofs.MembershipLaws.{all-has, all-from, has-left, has-right, has-cases}
use Rattle.orders.proofs.SortLaws.{never-itself}
use Rattle.domain.specs.Instances.{Instance, padded}
use Rattle.transform.specs.Schedules.{phase}
use Rattle.skeletons.specs.Cells.{Cell, Extent, LiesIn, AreCellsOf, CellComes, cell_of}
use Rattle.tiles.proofs.CountLaws.{cell-itself}
use Rattle.tiles.specs.Plans.{Phase, cells_of, phase_key, KeyLess, IsOnePhase, PhaseComes}
use Rattle.chunk_run.specs.ChunkEnds.{ArePhaseKeysOf}
use Rattle.chunk_run.specs.Groups.{AreTilesAt, HasTiles, HaveTiles, HasTileCounts}
use Rattle.chunk_run.proofs.KeyLaws.{cmp-cells, phase-same, same-phase, wide-leads-long}
use Rattle.chunk_run.proofs.CellListLaws.{push-same}

-- how many tiles a phase has
abbrev pub tiles_in : Phase → ℕ
tiles_in phase = length phase.cells

ordered-left : {X : Type 0} (R : X → X → Type 0) (us vs : List X) → Ordered R (us ++ vs) → Ordered R us
ordered-left R [] vs ord = tt
ordered-left R (u ∷ us) vs ord = (all-from (R u) us (λ z h. all-has (R u) (us ++ vs) z ord.0 (has-left us vs z h)), ordered-left R us vs ord.1)

-- the cells of one phase are in order too
pub cells-ordered : (us vs : List Phase) (phase : Phase) → Ordered CellComes (cells_of (us ++ phase ∷ vs)) → Ordered CellComes phase.cells
cells-ordered us vs phase ord =
    ordered-left CellComes phase.cells (cells_of vs)
    (ordered-right CellComes (cells_of us) (phase.cells ++ cells_of vs) (subst (Ordered CellComes) (flat_map-append (λ (p : Phase). p.cells) us (phase ∷ vs)) ord))

module _ (e : Extent) where
  abbrev key-of : Instance → List ℤ
  key-of x = phase e.schedule (padded e.table x)

  -- the phase key of an instance, and that of its cell
  cell-key : (c d : Cell) (x y : Instance) → LiesIn e c x → LiesIn e d y → (key-of x ≡ key-of y → phase_key c ≡ phase_key d)
  cell-key c d x y f g h =
      let parts = same-phase e.schedule (padded e.table x) (padded e.table y) h in
      ap₂ (λ (us : List ℤ) (w : ℤ). us ++ w ∷ []) (sym (ap (λ (b : Cell). b.lead) f.inside) ∙ parts.0 ∙ ap (λ (b : Cell). b.lead) g.inside) (sym (ap (λ (b : Cell). b.wave) f.inside) ∙ parts.1 ∙ ap (λ (b : Cell). b.wave) g.inside)

  leads-long : (c d : Cell) (x y : Instance) → LiesIn e c x → LiesIn e d y → length c.lead ≡ length d.lead
  leads-long c d x y f g =
      sym (ap (λ (b : Cell). length b.lead) f.inside) ∙ wide-leads-long e.schedule (padded e.table x) (padded e.table y) ∙ ap (λ (b : Cell). length b.lead) g.inside

  key-cell : (c d : Cell) (x y : Instance) → LiesIn e c x → LiesIn e d y → phase_key c ≡ phase_key d → key-of x ≡ key-of y
  key-cell c d x y f g h =
      let parts = push-same c.lead d.lead c.wave d.wave (leads-long c d x y f g) h in
      phase-same e.schedule (padded e.table x) (padded e.table y) (ap (λ (b : Cell). b.lead) f.inside ∙ parts.0 ∙ sym (ap (λ (b : Cell). b.lead) g.inside)) (ap (λ (b : Cell). b.wave) f.inside ∙ parts.1 ∙ sym (ap (λ (b : Cell). b.wave) g.inside))

  keys-less : (c d : Cell) (x y : Instance) → LiesIn e c x → LiesIn e d y → KeyLess (phase_key c) (phase_key d) → KeyLess (key-of x) (key-of y)
  keys-less c d x y f g less =
      sym (cmp-cells e.schedule (padded e.table x) (padded e.table y))
      ∙ subst (λ (b : Cell). KeyLess (phase_key (cell_of e.schedule (padded e.table x))) (phase_key b)) (sym g.inside) (subst (λ (b : Cell). KeyLess (phase_key b) (phase_key d)) (sym f.inside) less)

  -- an instance of a cell of these phases has the key
  record IsKeyOf (phases : List Phase) (key : List ℤ) : Type 0 where
    cell : Cell
    at : Instance
    found : Has (cells_of phases) cell
    lies : LiesIn e cell at
    is : key-of at ≡ key

  record Keys (phases : List Phase) : Type 0 where
    keys : List (List ℤ)
    many : length keys ≡ length phases
    once : Ordered Differ keys
    rise : Ordered KeyLess keys
    has : (key : List ℤ) → Has keys key ↔ IsKeyOf phases key
    each : HaveTiles e keys (map tiles_in phases)

  cell-phase : (phases : List Phase) (c : Cell) → Has (cells_of phases) c → (phase : Phase) × Has phases phase × Has phase.cells c
  cell-phase [] c h = absurd h
  cell-phase (phase ∷ phases) c h = ⊎_elim (λ k. (phase, inl refl, k)) (λ k. let (later, there, at) = cell-phase phases c k in (later, inr there, at)) (has-cases phase.cells (cells_of phases) c h)

  first-of : (cells : List Cell) → 1 ≤ length cells → (c : Cell) × Has cells c
  first-of [] h = absurd (omega arith)
  first-of (c ∷ cells) h = (c, inl refl)

  key-differs : (c d : Cell) → KeyLess (phase_key c) (phase_key d) → phase_key c ≡ phase_key d → ⊥
  key-differs c d less same = never-itself (slice_cmp int_cmp) (lists_total int_cmp_total) (λ (k : List ℤ). k) (phase_key c) (subst (λ (k : List ℤ). slice_cmp int_cmp (phase_key c) k ≡ Less) (sym same) less)

  -- the cells of a phase are the tiles of its key
  tiles-at : (us vs : List Phase) (p : Phase) → AreCellsOf e (cells_of (us ++ p ∷ vs)) → IsOnePhase p → Ordered PhaseComes (us ++ p ∷ vs) → (c : Cell) → Has p.cells c → (x : Instance) → LiesIn e c x → AreTilesAt e (key-of x) p.cells
  tiles-at us vs p are one rise c at x lies = record {
    once = ordered-weaker CellComes Differ (λ b d less same. cell-itself b (subst (CellComes b) (sym same) less)) p.cells (cells-ordered us vs p are.ordered);
    has = λ cell. (there cell, λ k. back cell k.0 k.1 k.2 (cell-phase (us ++ p ∷ vs) cell ((are.has cell).1 (k.0, k.1))));
  }
    where
      there : (cell : Cell) → Has p.cells cell → (y : Instance) × LiesIn e cell y × (key-of y ≡ key-of x)
      there cell h =
          let inside : Has (cells_of (us ++ p ∷ vs)) cell = subst (λ (l : List Cell). Has l cell) (sym (flat_map-append (λ (q : Phase). q.cells) us (p ∷ vs))) (has-right (cells_of us) (p.cells ++ cells_of vs) cell (has-left p.cells (cells_of vs) cell h)) in
          let (y, in_cell) = (are.has cell).0 inside in
          (y, in_cell, key-cell cell c y x in_cell lies (one.one cell c h at))

      back : (cell : Cell) (y : Instance) → LiesIn e cell y → key-of y ≡ key-of x → (q : Phase) × Has (us ++ p ∷ vs) q × Has q.cells cell → Has p.cells cell
      back cell y in_cell same (q, found, inside) =
          ⊎_elim (λ k. absurd (key-differs cell c (ordered-across PhaseComes us (p ∷ vs) q p rise k (inl refl) cell c inside at) (cell-key cell c y x in_cell lies same)))
          (λ k. here k)
          (has-cases us (p ∷ vs) q found)
        where
          here : (q ≡ p) ⊎ Has vs q → Has p.cells cell
          here (inl is) = subst (λ (r : Phase). Has r.cells cell) is inside
          here (inr k) = absurd (key-differs c cell (all-has (PhaseComes p) vs q (ordered-right PhaseComes us (p ∷ vs) rise).0 k c cell at inside) (sym (cell-key cell c y x in_cell lies same)))

  pub has-tiles : (phases : List Phase) (p : Phase) → AreCellsOf e (cells_of phases) → AllByRecursion IsOnePhase phases → Ordered PhaseComes phases → Has phases p → (c : Cell) → Has p.cells c → (x : Instance) → LiesIn e c x → HasTiles e (key-of x) (length p.cells)
  has-tiles phases p are one rise found c at x lies =
      let (us, vs, is) = has-split phases p found in
      record {
        cells = p.cells;
        are = tiles-at us vs p (subst (λ (ps : List Phase). AreCellsOf e (cells_of ps)) is are) (all-has IsOnePhase phases p one found) (subst (Ordered PhaseComes) is rise) c at x lies;
        many = refl;
      }

  keys-are : (phases : List Phase) → AllByRecursion IsOnePhase phases → Ordered PhaseComes phases → ((c : Cell) → Has (cells_of phases) c → (x : Instance) × LiesIn e c x)
      → ((p : Phase) → Has phases p → (c : Cell) → Has p.cells c → (x : Instance) → LiesIn e c x → HasTiles e (key-of x) (length p.cells)) → Keys phases
  keys-are [] one rise some tiles = record { keys = []; many = refl; once = tt; rise = tt; has = λ key. (λ h. absurd h, λ k. absurd (k.found)); each = tt }
  keys-are (phase ∷ phases) one rise some tiles =
      let (c, at) = first-of phase.cells (one.0).some in
      let (x, lies) = some c (has-left phase.cells (cells_of phases) c at) in
      more c at x lies (keys-are phases one.1 rise.1 (λ d h. some d (has-right phase.cells (cells_of phases) d h)) (λ p h. tiles p (inr h)))
    where
      more : (c : Cell) → Has phase.cells c → (x : Instance) → LiesIn e c x → Keys phases → Keys (phase ∷ phases)
      more c at x lies rest = record {
        keys = key-of x ∷ rest.keys;
        many = (let m = rest.many in omega (arith, m));
        once = (all-from (Differ (key-of x)) rest.keys apart, rest.once);
        rise = (all-from (KeyLess (key-of x)) rest.keys less, rest.rise);
        has = λ key. (there key, back key);
        each = (tiles phase (inl refl) c at x lies, rest.each);
      }
        where
          less : (key : List ℤ) → Has rest.keys key → KeyLess (key-of x) key
          less key h =
              let k = (rest.has key).0 h in
              let (later, found, inside) = cell-phase phases k.cell k.found in
              subst (KeyLess (key-of x)) k.is (keys-less c k.cell x k.at lies k.lies (all-has (PhaseComes phase) phases later rise.0 found c k.cell at inside))

          apart : (key : List ℤ) → Has rest.keys key → key-of x ≡ key → ⊥
          apart key h e =
              let k = (rest.has key).0 h in
              let (later, found, inside) = cell-phase phases k.cell k.found in
              key-differs c k.cell (all-has (PhaseComes phase) phases later rise.0 found c k.cell at inside) (cell-key c k.cell x k.at lies k.lies (e ∙ sym k.is))

          there : (key : List ℤ) → Has (key-of x ∷ rest.keys) key → IsKeyOf (phase ∷ phases) key
          there key (inl e) = record { cell = c; at = x; found = has-left phase.cells (cells_of phases) c at; lies = lies; is = sym e }
          there key (inr h) = let k = (rest.has key).0 h in record { cell = k.cell; at = k.at; found = has-right phase.cells (cells_of phases) k.cell k.found; lies = k.lies; is = k.is }

          back : (key : List ℤ) → IsKeyOf (phase ∷ phases) key → Has (key-of x ∷ rest.keys) key
          back key k =
              ⊎_elim (λ i. inl (sym k.is ∙ key-cell k.cell c k.at x k.lies lies ((one.0).one k.cell c i at)))
              (λ i. inr ((rest.has key).1 (record { cell = k.cell; at = k.at; found = i; lies = k.lies; is = k.is })))
              (has-cases phase.cells (cells_of phases) k.cell k.found)

  module _ (phases : List Phase) (are : AreCellsOf e (cells_of phases)) (one : AllByRecursion IsOnePhase phases) (rise : Ordered PhaseComes phases) where
    its-keys : Keys phases
    its-keys = keys-are phases one rise (λ c h. (are.has c).0 h) (λ p h c at x lies. has-tiles phases p are one rise h c at x lies)

    are-keys : ArePhaseKeysOf e its-keys.keys
    are-keys = record {
      once = its-keys.once;
      has = λ key. (
        λ h. let i = (its-keys.has key).0 h in (i.at, i.lies.predicted, i.is),
        λ i. (its-keys.has key).1 (record { cell = cell_of e.schedule (padded e.table i.0); at = i.0; found = (are.has (cell_of e.schedule (padded e.table i.0))).1 (i.0, record { predicted = i.1; inside = refl }); lies = record { predicted = i.1; inside = refl }; is = i.2 }),
      );
    }

    pub keys-exist : (keys : List (List ℤ)) × ArePhaseKeysOf e keys × (length keys ≡ length phases)
    keys-exist = (its-keys.keys, are-keys, its-keys.many)

    pub counts-exist : HasTileCounts e (map tiles_in phases)
    counts-exist = record { keys = its-keys.keys; rise = its-keys.rise; are = are-keys; each = its-keys.each }
