-- The instances of the runs of some cells are those of the cells, each once: so many as the counts of the runs say.
use Rattle.std.proofs.Common.{◌≡◌, refl, sym, ap, ap₂, ◌∙◌, subst, ℕ, zero, suc, ◌<◌, ◌≤◌, ◌+◌, ℤ, List, [], ◌∷◌, ◌++◌, map, length, inl, inr, ⊎_elim, arith, Less, Equal, length-append}
use Rattle.std.specs.List.{flat_map, range_with_len}
use Rattle.std.proofs.lemmas.Cmp.{int_cmp_total, lists_total, tied_itself}
use Rattle.std.proofs.lemmas.List.{length-map}
use Rattle.std.proofs.lemmas.List.FromFn.{length-range_with_len}
use Rattle.std.proofs.lemmas.List.Sums.{sum_by-cons}
use Rattle.orders.specs.Orders.{Ordered, Differ}
use Rattle.plain_lemmas.specs.Lists.{Has}
use Rattle.orders.proofs.ListLaws.{has-split, ordered-append, ordered-weaker}
use Rattle.plain_lemmas.proofs.MembershipLaws.{all-from, all-has, has-left, has-right, has-cases, contains-from-has, has-from-contains, has-map, map-has, has-flat_map, flat_map-has}
use Rattle.domain.specs.Tables.{IsTable, depth}
use Rattle.domain.specs.Instances.{Instance, Precedes, original_key, padded}
use Rattle.domain.specs.Instances.{Ordered as InOrder}
use Rattle.transform.specs.Schedules.{IsSchedule}
use Rattle.skeletons.specs.Cells.{AreCellsOf, Cell, CellComes, Extent, IsLaunch, LiesIn, cell_of}
use Rattle.skeletons.specs.Runs.{AreRunsOf, HasRuns, IsRun, Run, RunComes, run_key}
use Rattle.tiles.specs.Counts.{count_of, counted}
use Rattle.tiles.specs.Plans.{HaveRuns}
use Rattle.tiles.proofs.RunLaws.{run-alone, run-lies, run_at, run_of}

-- ---- lists without an element twice

module _ {X Y : Type 0} where
  -- lists that share no element, each without an element twice
  differ-flat_map : (f : X → List Y) (R : X → X → Type 0) (xs : List X) → Ordered R xs → ((x : X) → Has xs x → Ordered Differ (f x))
      → ((x y : X) → Has xs x → Has xs y → R x y → (u : Y) → Has (f x) u → Has (f y) u → ⊥) → Ordered Differ (flat_map f xs)
  differ-flat_map f R [] ord each apart = tt
  differ-flat_map f R (x ∷ xs) ord each apart = ordered-append Differ (f x) (flat_map f xs) (each x (inl refl))
      (differ-flat_map f R xs ord.1 (λ y h. each y (inr h)) (λ y z h k. apart y z (inr h) (inr k)))
      (λ u v h k e.
      let (y, there, at) = flat_map-has f xs v k in
      apart x y (inl refl) (inr there) (all-has (R x) xs y ord.0 there) v (subst (Has (f x)) e h) at)

pub has-range : (n first k : ℕ) → first ≤ k → k < first + n → Has (range_with_len first n) k
has-range zero first k from to = absurd (omega arith)
has-range (suc n) first k from to = ⊎_elim (λ l. inr (has-range n (first + 1) k (omega arith) (omega arith))) (λ l. inl (omega arith)) (Rattle.std.proofs.lemmas.Bool.cases_lt first k)

pub range-has : (n first k : ℕ) → Has (range_with_len first n) k → (first ≤ k) × (k < first + n)
range-has zero first k h = absurd h
range-has (suc n) first k (inl e) = (omega arith, omega arith)
range-has (suc n) first k (inr h) = let (from, to) = range-has n (first + 1) k h in (omega arith, omega arith)

differ-map-range : {X : Type 0} (f : ℕ → X) (n first : ℕ) → ((k l : ℕ) → first ≤ k → k < l → l < first + n → f k ≡ f l → ⊥) → Ordered Differ (map f (range_with_len first n))
differ-map-range f zero first apart = tt
differ-map-range {X} f (suc n) first apart = (
  all-from (Differ (f first)) (map f (range_with_len (first + 1) n)) (λ z h e.
      let (l, there, at) = map-has f (range_with_len (first + 1) n) z h in
      let (from, to) = range-has n (first + 1) l there in
      apart first l (omega arith) (omega arith) (omega arith) (e ∙ at)),
  differ-map-range f n (first + 1) (λ k l from less to. apart k l (omega arith) less (omega arith)),
)

-- a list without an element twice has at most as many elements as one that has them all
no-more : {X : Type 0} (xs ys : List X) → Ordered Differ ys → ((y : X) → Has ys y → Has xs y) → length ys ≤ length xs
no-more xs [] ord inside = omega arith
no-more {X} xs (y ∷ ys) ord inside =
    let (us, vs, is) = has-split xs y (inside y (inl refl)) in
    let rest = no-more (us ++ vs) ys ord.1 (λ z h. without us vs z (subst (λ (l : List X). Has l z) is (inside z (inr h))) (all-has (Differ y) ys z ord.0 h)) in
    let size : length xs ≡ length us + suc (length vs) = ap length is ∙ length-append us (y ∷ vs) in
    let less : length (us ++ vs) ≡ length us + length vs = length-append us vs in
    omega (arith, rest, size, less)
  where
    without : (us vs : List X) (z : X) → Has (us ++ y ∷ vs) z → (y ≡ z → ⊥) → Has (us ++ vs) z
    without us vs z h other = ⊎_elim (λ k. has-left us vs z k) (λ k. ⊎_elim (λ e. absurd (other (sym e))) (λ m. has-right us vs z m) k) (has-cases us (y ∷ vs) z h)

-- ---- the instances of runs

abbrev pub instances_of : Run → List Instance
instances_of r = map (run_at r) (range_with_len 0 r.count)

length-runs : (runs : List Run) → length (flat_map instances_of runs) ≡ count_of runs
length-runs [] = refl
length-runs (r ∷ runs) =
    length-append (instances_of r) (flat_map instances_of runs)
    ∙ ap₂ (λ (a b : ℕ). a + b) (length-map (range_with_len 0 r.count) (run_at r) ∙ length-range_with_len 0 r.count) (length-runs runs)
    ∙ sym (sum_by-cons (λ (q : Run). q.count) r runs)

length-all : (runs : List (List Run)) → length (flat_map (flat_map instances_of) runs) ≡ counted runs
length-all [] = refl
length-all (rs ∷ runs) =
    length-append (flat_map instances_of rs) (flat_map (flat_map instances_of) runs)
    ∙ ap₂ (λ (a b : ℕ). a + b) (length-runs rs) (length-all runs)
    ∙ sym (sum_by-cons count_of rs runs)

pub cell-itself : (c : Cell) → CellComes c c → ⊥
cell-itself c h = let w : Equal ≡ Less = sym (rw (tied_itself (lists_total int_cmp_total) c.lead, tied_itself int_cmp_total c.wave, tied_itself (lists_total int_cmp_total) c.tile) refl) ∙ h in cc

run-itself : (e : Extent) (r : Run) → RunComes e r r → ⊥
run-itself e r h = let w : Equal ≡ Less = sym (tied_itself (lists_total int_cmp_total) (run_key e r)) ∙ h in cc

instance-itself : (t : Rattle.domain.specs.Tables.Table) (x : Instance) → Precedes t x x → ⊥
instance-itself t x h = let w : Equal ≡ Less = sym (tied_itself (lists_total int_cmp_total) (original_key t x)) ∙ h in cc

in-order : {X : Type 0} (R : X → X → Type 0) (xs : List X) → InOrder R xs → Ordered R xs
in-order R [] h = tt
in-order R (x ∷ xs) h = (h.0, in-order R xs h.1)

module _ (e : Extent) (some : 1 ≤ depth e.table) (few : depth e.table ≤ 6) (table : IsTable (depth e.table) e.table) (schedule : IsSchedule (depth e.table) e.schedule) (launch : IsLaunch e.table e.chunk) where
  -- ---- of one cell

  in-run : (r : Run) (x : Instance) → Has (instances_of r) x → (k : ℕ) × (k < r.count) × (x ≡ run_at r k)
  in-run r x h =
      let (k, there, at) = map-has (run_at r) (range_with_len 0 r.count) x h in
      let (from, to) = range-has r.count 0 k there in
      (k, omega arith, at)

  run-in : (r : Run) (k : ℕ) → k < r.count → Has (instances_of r) (run_at r k)
  run-in r k below = has-map (run_at r) (range_with_len 0 r.count) k (has-range r.count 0 k (omega arith) (omega arith))

  in-cell : (cell : Cell) (runs : List Run) → HasRuns (depth e.table) e cell runs → (x : Instance) → Has (flat_map instances_of runs) x → LiesIn e cell x
  in-cell cell runs h x has =
      let (r, there, inside) = flat_map-has instances_of runs x has in
      let (k, below, at) = in-run r x inside in
      subst (LiesIn e cell) (sym at) (run-lies (depth e.table) e some few table schedule launch h.direction h.last cell r k ((h.runs.has r).0 there) below)

  cell-in : (cell : Cell) (runs : List Run) → HasRuns (depth e.table) e cell runs → (x : Instance) → LiesIn e cell x → Has (flat_map instances_of runs) x
  cell-in cell runs h x lies =
      let found = run_of (depth e.table) e some few table schedule launch h.direction h.last cell x lies in
      has-flat_map instances_of runs found.run x ((h.runs.has found.run).1 found.is) (subst (Has (instances_of found.run)) (sym found.at) (run-in found.run found.place found.below))

  run-differ : (cell : Cell) (direction : List ℤ) (runs : List Run) (last : Rattle.skeletons.specs.Runs.IsDirection (depth e.table) e.schedule direction) (r : Run) → IsRun e direction cell r → Ordered Differ (instances_of r)
  run-differ cell direction runs last r is = differ-map-range (run_at r) r.count 0 (λ k l from less to same.
      let at = (run-alone (depth e.table) e some few table schedule launch direction last cell r r k l is is (omega arith) (omega arith) same).1 in omega arith)

  cell-differ : (cell : Cell) (runs : List Run) → HasRuns (depth e.table) e cell runs → Ordered Differ (flat_map instances_of runs)
  cell-differ cell runs h = differ-flat_map instances_of (RunComes e) runs h.runs.ordered
      (λ r there. run-differ cell h.direction runs h.last r ((h.runs.has r).0 there))
      (λ r q there other comes x inside also.
      let (k, below, at) = in-run r x inside in
      let (l, within, here) = in-run q x also in
      let same = (run-alone (depth e.table) e some few table schedule launch h.direction h.last cell r q k l ((h.runs.has r).0 there) ((h.runs.has q).0 other) below within (sym at ∙ here)).0 in
      run-itself e r (subst (RunComes e r) (sym same) comes))

  -- ---- of some cells

  abbrev pub instances_in : List (List Run) → List Instance
  instances_in runs = flat_map (flat_map instances_of) runs

  in-cells : (cells : List Cell) (runs : List (List Run)) → HaveRuns e cells runs → (x : Instance) → Has (instances_in runs) x → (cell : Cell) × Has cells cell × LiesIn e cell x
  in-cells [] [] h x has = absurd has
  in-cells [] (rs ∷ runs) h x has = absurd h
  in-cells (cell ∷ cells) [] h x has = absurd h
  in-cells (cell ∷ cells) (rs ∷ runs) h x has = ⊎_elim
      (λ k. (cell, inl refl, in-cell cell rs h.0 x k))
      (λ k. let (c, there, lies) = in-cells cells runs h.1 x k in (c, inr there, lies))
      (has-cases (flat_map instances_of rs) (instances_in runs) x has)

  cells-in : (cells : List Cell) (runs : List (List Run)) → HaveRuns e cells runs → (cell : Cell) → Has cells cell → (x : Instance) → LiesIn e cell x → Has (instances_in runs) x
  cells-in [] runs h cell there x lies = absurd there
  cells-in (c ∷ cells) [] h cell there x lies = absurd h
  cells-in (c ∷ cells) (rs ∷ runs) h cell (inl same) x lies = has-left (flat_map instances_of rs) (instances_in runs) x (cell-in c rs h.0 x (subst (λ (d : Cell). LiesIn e d x) same lies))
  cells-in (c ∷ cells) (rs ∷ runs) h cell (inr there) x lies = has-right (flat_map instances_of rs) (instances_in runs) x (cells-in cells runs h.1 cell there x lies)

  cells-differ : (cells : List Cell) (runs : List (List Run)) → Ordered CellComes cells → HaveRuns e cells runs → Ordered Differ (instances_in runs)
  cells-differ [] [] ord h = tt
  cells-differ [] (rs ∷ runs) ord h = absurd h
  cells-differ (cell ∷ cells) [] ord h = absurd h
  cells-differ (cell ∷ cells) (rs ∷ runs) ord h = ordered-append Differ (flat_map instances_of rs) (instances_in runs) (cell-differ cell rs h.0) (cells-differ cells runs ord.1 h.1)
      (λ x y inside other same.
      let (c, there, lies) = in-cells cells runs h.1 y other in
      let here : cell ≡ c = sym (in-cell cell rs h.0 x inside).inside ∙ ap (λ (z : Instance). cell_of e.schedule (padded e.table z)) same ∙ lies.inside in
      cell-itself cell (subst (CellComes cell) (sym here) (all-has (CellComes cell) cells c ord.0 there)))

  list-differ : Ordered Differ launch.launched.list
  list-differ = ordered-weaker (Precedes e.table) Differ (λ x y comes same. instance-itself e.table x (subst (Precedes e.table x) (sym same) comes)) launch.launched.list (in-order (Precedes e.table) launch.launched.list launch.launched.original.ordered)

  -- the runs of some cells have at most the instances of the chunk
  pub count-most : (cells : List Cell) (runs : List (List Run)) → Ordered CellComes cells → HaveRuns e cells runs → counted runs ≤ launch.instances
  count-most cells runs ord h =
      let most = no-more launch.launched.list (instances_in runs) (cells-differ cells runs ord h) (λ x has.
      let (cell, there, lies) = in-cells cells runs h x has in
      has-from-contains launch.launched.list x ((launch.launched.original.has x).1 lies.predicted)) in
      let size = length-all runs in let count = launch.launched.count in
      omega (arith, most, size, count)

  -- and those of all its cells have them all
  pub count-all : (cells : List Cell) (runs : List (List Run)) → AreCellsOf e cells → HaveRuns e cells runs → counted runs ≡ launch.instances
  count-all cells runs are h =
      let most = count-most cells runs are.ordered h in
      let all = no-more (instances_in runs) launch.launched.list list-differ (λ x has.
      let p = (launch.launched.original.has x).0 (contains-from-has launch.launched.list x has) in
      let lies : LiesIn e (cell_of e.schedule (padded e.table x)) x = record { predicted = p; inside = refl } in
      cells-in cells runs h (cell_of e.schedule (padded e.table x)) ((are.has (cell_of e.schedule (padded e.table x))).1 (x, lies)) x lies) in
      let size = length-all runs in let count = launch.launched.count in
      omega (arith, most, all, size, count)

  -- a cell that has an instance has a run that has one
  count-some : (cell : Cell) (runs : List Run) → HasRuns (depth e.table) e cell runs → (x : Instance) → LiesIn e cell x → 1 ≤ count_of runs
  count-some cell runs h x lies = by (flat_map instances_of runs) (length-runs runs) (cell-in cell runs h x lies)
    where
      by : (xs : List Instance) → length xs ≡ count_of runs → Has xs x → 1 ≤ count_of runs
      by [] size has = absurd has
      by (y ∷ ys) size has = omega arith

  pub cells-most : (cells : List Cell) (runs : List (List Run)) → ((cell : Cell) → Has cells cell → (x : Instance) × LiesIn e cell x) → HaveRuns e cells runs → length cells ≤ counted runs
  cells-most [] [] have h = omega arith
  cells-most [] (rs ∷ runs) have h = absurd h
  cells-most (cell ∷ cells) [] have h = absurd h
  cells-most (cell ∷ cells) (rs ∷ runs) have h =
      let (x, lies) = have cell (inl refl) in
      let one = count-some cell rs h.0 x lies in
      let rest = cells-most cells runs (λ c there. have c (inr there)) h.1 in
      let sum : counted (rs ∷ runs) ≡ count_of rs + counted runs = sum_by-cons count_of rs runs in
      omega (arith, one, rest, sum)
