-- The plan of a chunk, from its cells, the tiles and the stripes that were gathered of them.
use Rattle.std.proofs.Common.{◌≡◌, refl, sym, ap, ◌∙◌, subst, ℕ, zero, suc, ◌<◌, ◌≤◌, ◌+◌, ◌-◌, ◌^◌, ℤ, pos, unsigned_abs, Some, None, List, [], ◌∷◌, ◌++◌, map, take, length, get_or, inl, inr, ⊎_elim, arith, length-append}
use Rattle.std.specs.Prelude.{Contains}
use Rattle.std.specs.List.{All, flat_map, range_with_len}
use Rattle.std.proofs.lemmas.Bool.{cases_lt}
use Rattle.std.proofs.lemmas.Grind.{flat_map-append}
use Rattle.std.proofs.lemmas.Int.{ints}
use Rattle.std.proofs.lemmas.List.{append-nil, take_all, take_more}
use Rattle.std.proofs.lemmas.List.Sums.{sum_by-cons}
use Rattle.tiles.specs.declared.stripe.Stripe.{Stripe}
use Rattle.tiles.specs.Stripes.{IsWithin, addresses_of, addresses_of_all}
use Rattle.orders.specs.Orders.{Ordered}
use Rattle.plain_lemmas.specs.Lists.{Has}
use Rattle.orders.proofs.ListLaws.{ordered-right}
use Rattle.plain_lemmas.proofs.MembershipLaws.{all-from, all-has, contains-from-has, has-from-contains, has-left, has-right, has-cases, flat_map-has, has-flat_map, has-map, map-has}
use Rattle.plain_lemmas.proofs.MembershipLaws as plain
use Rattle.domain.specs.declared.held.HeldWhy.TheVariants.{Many}
use Rattle.domain.specs.Tables.{Table, IsTable, depth}
use Rattle.domain.specs.Instances.{Instance, padded}
use Rattle.domain.specs.Launches.{IsLaunched}
use Rattle.domain.specs.declared.chunk.Chunk.{Chunk}
use Rattle.domain.proofs.LaunchLaws.{many-instances}
use Rattle.transform.specs.Schedules.{IsSchedule, leading, matrix}
use Rattle.affine.specs.Inverses.{IsInverse}
use Rattle.affine.specs.Matrices.{HasSmallEntries}
use Rattle.skeletons.specs.Cells.{AreCellsOf, Cell, CellComes, Extent, IsLaunch, LiesIn, cell_of}
use Rattle.skeletons.specs.Runs.{HasRuns, Run}
use Rattle.tiles.specs.declared.strip.Strip.{Strip}
use Rattle.core_steps.specs.declared.plan.Tile.{Tile}
use Rattle.tiles.specs.Counts.{count_of, counted}
use Rattle.tiles.specs.Groups.{added}
use Rattle.tiles.specs.Plans.{AreStripesOf, CellWrites, ChunkWrites, HaveRuns, IsPhaseOf, IsPlannable, IsPlanOf, Phase, cells_of}
use Rattle.tiles.specs.Strips.{IsListOfWords, IsPlannedRun, address_at, loads_of_run, strip_of, stores_of_run}
use Rattle.tiles.proofs.CountLaws.{cells-most, count-all, count-most, has-range, range-has}
use Rattle.tiles.proofs.DirectionLaws.{direction-small}
use Rattle.tiles.proofs.GroupLaws.{AreGathered, gathered-more, gathered-none}
use Rattle.tiles.proofs.PhaseLaws.{inside, length-wide, separate}
use Rattle.tiles.proofs.WordLaws.{get_or-has}
use Rattle.tiles.proofs.StripLaws.{HasStrip, planned, strip-writes, tile-is, writes-strip, written}

-- ---- launches

abbrev pub launch-of : (e : Extent) (words : ℕ) → IsPlannable e.table e.schedule e.chunk words → IsLaunch e.table e.chunk
launch-of e words can = record {
  first = can.first;
  far = can.far;
  some = can.some;
  few = (let a = can.turns in let b = can.few in omega (arith, ints, a, b));
  words = pos words;
  instances = can.instances;
  launched = can.launched;
}

pub record HasEnd (xs : List Instance) : Type 0 where
  pub front : List Instance
  pub last : Instance
  pub is : xs ≡ front ++ last ∷ []

end-of : (x : Instance) (xs : List Instance) → HasEnd (x ∷ xs)
end-of x [] = record { front = []; last = x; is = refl }
end-of x (y ∷ ys) = let h = end-of y ys in record { front = x ∷ h.front; last = h.last; is = ap (λ (l : List Instance). x ∷ l) h.is }

-- a launched chunk has at most 65,536 instances
pub launched-few : (t : Table) (words : ℤ) (chunk : Chunk) (instances : ℕ) → IsLaunched t words chunk instances → instances ≤ 65536
launched-few t words chunk instances l = by l.list refl
  where
    by : (xs : List Instance) → l.list ≡ xs → instances ≤ 65536
    by [] e = (let count = l.count in let size = ap length e in omega (arith, count, size))
    by (x ∷ xs) e =
        let h = end-of x xs in
        let is : l.list ≡ h.front ++ h.last ∷ [] = e ∙ h.is in
        ⊎_elim
        (λ less.
        let count = l.count in let size = ap length is in let parts = length-append h.front (h.last ∷ []) in
        omega (arith, less, count, size, parts))
        (λ many. absurd (let f : Some Many ≡ None = sym (many-instances t words h.front h.last many) ∙ l.passes h.front h.last [] is in cc))
        (cases_lt (length h.front) 65536)

-- ---- lists

all-of : {X : Type 0} (P : X → Type 0) (xs : List X) → ((x : X) → Has xs x → P x) → All P xs
all-of P xs f = plain.All-from P xs (λ x h. f x (has-from-contains xs x (plain.contains-from-has xs x h)))

ordered-part : (R : Cell → Cell → Type 0) (phases : List Phase) (p : Phase) → Ordered R (cells_of phases) → Has phases p → Ordered R p.cells
ordered-part R [] p ord h = absurd h
ordered-part R (q ∷ phases) p ord (inl e) = subst (λ (r : Phase). Ordered R r.cells) (sym e) (left q.cells ord)
  where
    left : (us : List Cell) → Ordered R (us ++ cells_of phases) → Ordered R us
    left [] o = tt
    left (u ∷ us) o = (all-from (R u) us (λ v k. all-has (R u) (us ++ cells_of phases) v o.0 (has-left us (cells_of phases) v k)), left us o.1)
ordered-part R (q ∷ phases) p ord (inr h) = ordered-part R phases p (ordered-right R q.cells (cells_of phases) ord) h

module _ (e : Extent) (words : ℕ) (some : 1 ≤ depth e.table) (few : depth e.table ≤ 6) (table : IsTable (depth e.table) e.table) (schedule : IsSchedule (depth e.table) e.schedule) (can : IsPlannable e.table e.schedule e.chunk words) where
  launch : IsLaunch e.table e.chunk
  launch = launch-of e words can

  abbrev strips : List (List Run) → List Strip
  strips runs = flat_map (flat_map (stores_of_run e.table)) runs

  -- ---- the strips of some cells

  pub record IsWrittenIn (cells : List Cell) (address : ℤ) : Type 0 where
    pub cell : Cell
    pub has : Has cells cell
    pub writes : CellWrites e cell address

  strips-write : (cells : List Cell) (runs : List (List Run)) → HaveRuns e cells runs → (s : Strip) (k : ℕ) → Has (strips runs) s → k < s.count → IsWrittenIn cells (address_at s k)
  strips-write [] [] h s k has below = absurd has
  strips-write [] (rs ∷ runs) h s k has below = absurd h
  strips-write (cell ∷ cells) [] h s k has below = absurd h
  strips-write (cell ∷ cells) (rs ∷ runs) h s k has below = ⊎_elim
      (λ here. record { cell = cell; has = inl refl; writes = strip-writes (depth e.table) e words some few table schedule (launch-of e words can) refl cell rs h.0 s k here below })
      (λ there. let w = strips-write cells runs h.1 s k there below in record { cell = w.cell; has = inr w.has; writes = w.writes })
      (has-cases (flat_map (stores_of_run e.table) rs) (strips runs) s has)

  write-strips : (cells : List Cell) (runs : List (List Run)) → HaveRuns e cells runs → (cell : Cell) → Has cells cell → (address : ℤ) → CellWrites e cell address → HasStrip (strips runs) address
  write-strips [] runs h cell there address w = absurd there
  write-strips (c ∷ cells) [] h cell there address w = absurd h
  write-strips (c ∷ cells) (rs ∷ runs) h cell (inl same) address w =
      let found = writes-strip (depth e.table) e words some few table schedule (launch-of e words can) refl c rs h.0 address (subst (λ (d : Cell). CellWrites e d address) same w) in
      record { strip = found.strip; has = has-left (flat_map (stores_of_run e.table) rs) (strips runs) found.strip found.has; place = found.place; below = found.below; is = found.is }
  write-strips (c ∷ cells) (rs ∷ runs) h cell (inr there) address w =
      let found = write-strips cells runs h.1 cell there address w in
      record { strip = found.strip; has = has-right (flat_map (stores_of_run e.table) rs) (strips runs) found.strip found.has; place = found.place; below = found.below; is = found.is }

  module _ (cells : List Cell) (groups : List Phase) (runs : List (List Run)) (stripes : List Stripe) (are : AreCellsOf e cells) (gathered : AreGathered e words cells groups) (have : HaveRuns e cells runs) (same : map strip_of stripes ≡ strips runs) where
    stripe-writes : (stripe : Stripe) (k : ℕ) → Has stripes stripe → k < stripe.count → IsWrittenIn cells (address_at (strip_of stripe) k)
    stripe-writes stripe k h below = strips-write cells runs have (strip_of stripe) k (subst (λ (l : List Strip). Has l (strip_of stripe)) same (has-map strip_of stripes stripe h)) below

    stripes-within : All (IsWithin words) stripes
    stripes-within = all-of (IsWithin words) stripes (λ stripe h k below.
        let w = stripe-writes stripe k h below in
        written (depth e.table) e words some few table schedule (launch-of e words can) refl w.writes.at w.writes.lies.predicted (address_at (strip_of stripe) k) w.writes.writes)

    stored : (address : ℕ) → Contains (addresses_of_all stripes) address → ChunkWrites e (pos address)
    stored address c =
        let (stripe, there, inside) = flat_map-has addresses_of stripes address (has-from-contains (addresses_of_all stripes) address c) in
        let (k, within, at) = map-has (λ (k : ℕ). unsigned_abs (address_at (strip_of stripe) k)) (range_with_len 0 stripe.count) address inside in
        let (from, to) = range-has stripe.count 0 k within in
        let w = stripe-writes stripe k there (omega arith) in
        let low = (written (depth e.table) e words some few table schedule (launch-of e words can) refl w.writes.at w.writes.lies.predicted (address_at (strip_of stripe) k) w.writes.writes).0 in
        let is : address_at (strip_of stripe) k ≡ pos address = omega (arith, ints, low, at) in
        subst (ChunkWrites e) is (record { at = w.writes.at; predicted = w.writes.lies.predicted; writes = w.writes.writes })

    kept : (address : ℕ) → ChunkWrites e (pos address) → Contains (addresses_of_all stripes) address
    kept address w =
        let cell = cell_of e.schedule (padded e.table w.at) in
        let lies : LiesIn e cell w.at = record { predicted = w.predicted; inside = refl } in
        let found = write-strips cells runs have cell ((are.has cell).1 (w.at, lies)) (pos address) (record { at = w.at; lies = lies; writes = w.writes }) in
        let (stripe, there, at) = map-has strip_of stripes found.strip (subst (λ (l : List Strip). Has l found.strip) (sym same) found.has) in
        let below : found.place < stripe.count = subst (λ (s : Strip). found.place < s.count) at found.below in
        let is : pos address ≡ address_at (strip_of stripe) found.place = found.is ∙ ap (λ (s : Strip). address_at s found.place) at in
        let number : address ≡ unsigned_abs (address_at (strip_of stripe) found.place) = ap unsigned_abs is in
        contains-from-has (addresses_of_all stripes) address (has-flat_map addresses_of stripes stripe address there
        (subst (Has (addresses_of stripe)) (sym number) (has-map (λ (k : ℕ). unsigned_abs (address_at (strip_of stripe) k)) (range_with_len 0 stripe.count) found.place (has-range stripe.count 0 found.place (omega arith) (omega arith)))))

    phase-is : (p : Phase) → Has groups p → IsPhaseOf e words p
    phase-is p h = record {
      one = gathered.one p h;
      tiles = gathered.tiles p h;
      separate = separate (depth e.table) e words table schedule can p (gathered.one p h) (gathered.tiles p h)
          (ordered-part CellComes groups p (subst (Ordered CellComes) (sym gathered.cells-are) are.ordered) h);
      inside = inside (depth e.table) e words table schedule can p (gathered.tiles p h);
    }

    pub plan-is : (instances : ℕ) → instances ≡ counted runs → IsPlanOf e words (record { phases = groups; instances = instances; tiles = length cells; stripes = stripes })
    plan-is instances count = record {
      cells = subst (AreCellsOf e) (sym gathered.cells-are) are;
      phases = all-of (IsPhaseOf e words) groups phase-is;
      rise = gathered.rise;
      instances = subst (IsLaunched e.table (pos words) e.chunk) (sym (count ∙ all)) can.launched;
      tiles = ap length (sym gathered.cells-are);
      few = (let most = cells-most e some few table schedule (launch-of e words can) cells runs (λ c h. (are.has c).0 h) have in
          let least = launched-few e.table (pos words) e.chunk can.instances can.launched in
          let total = all in
          omega (arith, most, least, total));
      stripes = subst (λ (l : List Cell). AreStripesOf e l stripes) (sym gathered.cells-are) (record { runs = runs; have = have; strips = same });
      within = stripes-within;
      stores = λ address. (stored address, kept address);
    }
      where
        all : counted runs ≡ can.instances
        all = count-all e some few table schedule (launch-of e words can) cells runs are have

-- ---- cell by cell

-- what was gathered of the first n cells
pub record Stands (e : Extent) (words : ℕ) (cells : List Cell) (n : ℕ) (groups : List Phase) (stripes : List Stripe) (instances : ℕ) : Type 0 where
  pub gathered : AreGathered e words (take n cells) groups
  pub runs : List (List Run)
  pub have : HaveRuns e (take n cells) runs
  pub strips : map strip_of stripes ≡ flat_map (flat_map (stores_of_run e.table)) runs
  pub count : instances ≡ counted runs

pub stands-none : (e : Extent) (words : ℕ) (cells : List Cell) → Stands e words cells 0 [] [] 0
stands-none e words cells = record { gathered = gathered-none e words; runs = []; have = tt; strips = refl; count = refl }

have-more : (e : Extent) (cells : List Cell) (runs : List (List Run)) (cell : Cell) (rs : List Run) → HaveRuns e cells runs → HasRuns (depth e.table) e cell rs → HaveRuns e (cells ++ cell ∷ []) (runs ++ rs ∷ [])
have-more e [] [] cell rs h one = (one, tt)
have-more e [] (qs ∷ runs) cell rs h one = absurd h
have-more e (c ∷ cells) [] cell rs h one = absurd h
have-more e (c ∷ cells) (qs ∷ runs) cell rs h one = (h.0, have-more e cells runs cell rs h.1 one)

counted-more : (runs : List (List Run)) (rs : List Run) → counted (runs ++ rs ∷ []) ≡ counted runs + count_of rs
counted-more [] rs = omega arith
counted-more (qs ∷ runs) rs =
    let rest = counted-more runs rs in
    let more : counted ((qs ∷ runs) ++ rs ∷ []) ≡ count_of qs + counted (runs ++ rs ∷ []) = sum_by-cons count_of qs (runs ++ rs ∷ []) in
    let whole : counted (qs ∷ runs) ≡ count_of qs + counted runs = sum_by-cons count_of qs runs in
    omega (arith, rest, more, whole)

take-before : (cells : List Cell) (n : ℕ) (cell : Cell) → n < length cells → cell ≡ get_or cells n cell → Ordered CellComes cells → (c : Cell) → Has (take n cells) c → CellComes c cell
take-before [] n cell inside is ord c h = absurd (omega arith)
take-before (x ∷ cells) zero cell inside is ord c h = absurd h
take-before (x ∷ cells) (suc n) cell inside is ord c (inl same) = subst (λ (z : Cell). CellComes z cell) (sym same) (all-has (CellComes x) cells cell ord.0 (get_or-has cells n cell (omega arith) is))
take-before (x ∷ cells) (suc n) cell inside is ord c (inr h) = take-before cells n cell (omega arith) is ord.1 c h

take-has : (n : ℕ) (cells : List Cell) (c : Cell) → Has (take n cells) c → Has cells c
take-has zero cells c h = absurd h
take-has (suc n) [] c h = absurd h
take-has (suc n) (x ∷ cells) c (inl e) = inl e
take-has (suc n) (x ∷ cells) c (inr h) = inr (take-has n cells c h)

ordered-take : (n : ℕ) (cells : List Cell) → Ordered CellComes cells → Ordered CellComes (take n cells)
ordered-take zero cells ord = tt
ordered-take (suc n) [] ord = tt
ordered-take (suc n) (x ∷ cells) ord = (all-from (CellComes x) (take n cells) (λ c h. all-has (CellComes x) cells c ord.0 (take-has n cells c h)), ordered-take n cells ord.1)

-- the runs of one cell more have no more instances than the chunk
pub stands-bound : (e : Extent) (words : ℕ) (some : 1 ≤ depth e.table) (few : depth e.table ≤ 6) (table : IsTable (depth e.table) e.table) (schedule : IsSchedule (depth e.table) e.schedule) (can : IsPlannable e.table e.schedule e.chunk words)
    (cells : List Cell) (n : ℕ) (groups : List Phase) (stripes : List Stripe) (instances : ℕ) (cell : Cell) (rs : List Run) → AreCellsOf e cells → Stands e words cells n groups stripes instances
    → n < length cells → cell ≡ get_or cells n cell → HasRuns (depth e.table) e cell rs → instances + count_of rs ≤ 65536
stands-bound e words some few table schedule can cells n groups stripes instances cell rs are stands below is one =
    let ordered : Ordered CellComes (take n cells ++ cell ∷ []) = subst (Ordered CellComes) (take_more cells n cell below ∙ ap (λ (c : Cell). take n cells ++ c ∷ []) (sym is)) (ordered-take (n + 1) cells are.ordered) in
    let most = count-most e some few table schedule (launch-of e words can) (take n cells ++ cell ∷ []) (stands.runs ++ rs ∷ []) ordered (have-more e (take n cells) stands.runs cell rs stands.have one) in
    let sum = counted-more stands.runs rs in
    let count = stands.count in
    let least = launched-few e.table (pos words) e.chunk can.instances can.launched in
    omega (arith, most, sum, count, least)

pub stands-more : (e : Extent) (words : ℕ) (some : 1 ≤ depth e.table) (few : depth e.table ≤ 6) (table : IsTable (depth e.table) e.table) (schedule : IsSchedule (depth e.table) e.schedule) (can : IsPlannable e.table e.schedule e.chunk words)
    (cells : List Cell) (n : ℕ) (groups news : List Phase) (stripes after : List Stripe) (instances : ℕ) (cell : Cell) (rs : List Run) (tile : Tile) → AreCellsOf e cells → Stands e words cells n groups stripes instances
    → n < length cells → cell ≡ get_or cells n cell → HasRuns (depth e.table) e cell rs
    → IsListOfWords words (flat_map (loads_of_run e.table) rs) tile.reads → IsListOfWords words (flat_map (stores_of_run e.table) rs) tile.writes
    → map strip_of after ≡ map strip_of stripes ++ flat_map (stores_of_run e.table) rs → news ≡ added groups cell tile
    → Stands e words cells (n + 1) news after (instances + count_of rs)
stands-more e words some few table schedule can cells n groups news stripes after instances cell rs tile are stands below is one reads writes strips groups-are =
    let taken : take (n + 1) cells ≡ take n cells ++ cell ∷ [] = take_more cells n cell below ∙ ap (λ (c : Cell). take n cells ++ c ∷ []) (sym is) in
    let fits = tile-is (depth e.table) e words some few table schedule (launch-of e words can) refl cell rs one tile reads writes in
    record {
      gathered = subst (λ (l : List Cell). AreGathered e words l news) (sym taken) (subst (AreGathered e words (take n cells ++ cell ∷ [])) (sym groups-are)
          (gathered-more e words (length (leading e.schedule) + (length e.schedule.lines - e.schedule.seq)) (take n cells) groups cell tile stands.gathered fits
          (λ c h. size c (take-has n cells c h)) (size cell (get_or-has cells n cell below is)) (take-before cells n cell below is are.ordered)));
      runs = stands.runs ++ rs ∷ [];
      have = subst (λ (l : List Cell). HaveRuns e l (stands.runs ++ rs ∷ [])) (sym taken) (have-more e (take n cells) stands.runs cell rs stands.have one);
      strips =
          strips ∙ ap (λ (l : List Strip). l ++ flat_map (stores_of_run e.table) rs) stands.strips
          ∙ sym (flat_map-append (flat_map (stores_of_run e.table)) stands.runs (rs ∷ []) ∙ ap (λ (l : List Strip). flat_map (flat_map (stores_of_run e.table)) stands.runs ++ l) (append-nil (flat_map (stores_of_run e.table) rs)));
      count = ap (λ (k : ℕ). k + count_of rs) stands.count ∙ sym (counted-more stands.runs rs);
    }
  where
    size : (c : Cell) → Has cells c → length c.lead ≡ length (leading e.schedule) + (length e.schedule.lines - e.schedule.seq)
    size c h = let (x, lies) = (are.has c).0 h in ap (λ (z : Cell). length z.lead) (sym lies.inside) ∙ length-wide e.schedule (padded e.table x)

pub stands-plan : (e : Extent) (words : ℕ) (some : 1 ≤ depth e.table) (few : depth e.table ≤ 6) (table : IsTable (depth e.table) e.table) (schedule : IsSchedule (depth e.table) e.schedule) (can : IsPlannable e.table e.schedule e.chunk words)
    (cells : List Cell) (n : ℕ) (groups : List Phase) (stripes : List Stripe) (instances : ℕ) → AreCellsOf e cells → length cells ≤ n → Stands e words cells n groups stripes instances
    → IsPlanOf e words (record { phases = groups; instances = instances; tiles = length cells; stripes = stripes })
stands-plan e words some few table schedule can cells n groups stripes instances are end stands =
    let all : take n cells ≡ cells = take_all n cells end in
    plan-is e words some few table schedule can cells groups stands.runs stripes are
    (subst (λ (l : List Cell). AreGathered e words l groups) all stands.gathered) (subst (λ (l : List Cell). HaveRuns e l stands.runs) all stands.have) stands.strips instances stands.count

-- ---- what a plan is made of

pub record IsScope (e : Extent) (words : ℕ) : Type 0 where
  pub some : 1 ≤ depth e.table
  pub few : depth e.table ≤ 6
  pub table : IsTable (depth e.table) e.table
  pub schedule : IsSchedule (depth e.table) e.schedule
  pub can : IsPlannable e.table e.schedule e.chunk words
  pub columns : List (List ℤ)
  pub inverse : IsInverse (depth e.table) (matrix e.schedule) columns
  pub small : HasSmallEntries columns
  pub fits : words < 2 ^ 64

pub scope-of : (n : ℕ) (e : Extent) (words : ℕ) (columns : List (List ℤ)) → 1 ≤ n → n < 7 → IsTable n e.table → IsSchedule n e.schedule → IsPlannable e.table e.schedule e.chunk words
    → IsInverse n (matrix e.schedule) columns → HasSmallEntries columns → words < 2 ^ 64 → IsScope e words
scope-of n e words columns some few table schedule can inverse small fits =
    let deep = table.deep in
    record {
      some = omega (arith, some, deep);
      few = omega (arith, few, deep);
      table = subst (λ (m : ℕ). IsTable m e.table) (sym deep) table;
      schedule = subst (λ (m : ℕ). IsSchedule m e.schedule) (sym deep) schedule;
      can = can;
      columns = columns;
      inverse = subst (λ (m : ℕ). IsInverse m (matrix e.schedule) columns) (sym deep) inverse;
      small = small;
      fits = fits;
    }

module _ (n : ℕ) (e : Extent) (words : ℕ) (scope : IsScope e words) (deep : depth e.table ≡ n) where
  runs-at : (cell : Cell) (rs : List Run) → HasRuns n e cell rs → HasRuns (depth e.table) e cell rs
  runs-at cell rs one = subst (λ (m : ℕ). HasRuns m e cell rs) (sym deep) one

  pub scope-planned : (cell : Cell) (rs : List Run) → HasRuns n e cell rs → (r : Run) → Has rs r → IsPlannedRun e.table r
  scope-planned cell rs one r h =
      let here = runs-at cell rs one in
      planned (depth e.table) e words scope.some scope.few scope.table scope.schedule (launch-of e words scope.can) refl here.direction here.last cell r scope.fits
      (direction-small (depth e.table) e scope.columns here.direction scope.some scope.few scope.table scope.schedule (launch-of e words scope.can) scope.inverse scope.small here.last)
      ((here.runs.has r).0 h)

  module _ (cells : List Cell) (k : ℕ) (groups : List Phase) (stripes : List Stripe) (instances : ℕ) (are : AreCellsOf e cells) (stands : Stands e words cells k groups stripes instances) where
    pub scope-bound : (cell : Cell) (rs : List Run) → k < length cells → cell ≡ get_or cells k cell → HasRuns n e cell rs → instances + count_of rs ≤ 65536
    scope-bound cell rs below is one = stands-bound e words scope.some scope.few scope.table scope.schedule scope.can cells k groups stripes instances cell rs are stands below is (runs-at cell rs one)

    pub scope-more : (news : List Phase) (after : List Stripe) (cell : Cell) (rs : List Run) (tile : Tile) → k < length cells → cell ≡ get_or cells k cell → HasRuns n e cell rs
        → IsListOfWords words (flat_map (loads_of_run e.table) rs) tile.reads → IsListOfWords words (flat_map (stores_of_run e.table) rs) tile.writes
        → map strip_of after ≡ map strip_of stripes ++ flat_map (stores_of_run e.table) rs → news ≡ added groups cell tile
        → Stands e words cells (k + 1) news after (instances + count_of rs)
    scope-more news after cell rs tile below is one reads writes gained groups-are =
        stands-more e words scope.some scope.few scope.table scope.schedule scope.can cells k groups news stripes after instances cell rs tile are stands below is (runs-at cell rs one) reads writes gained groups-are

    pub scope-plan : length cells ≤ k → IsPlanOf e words (record { phases = groups; instances = instances; tiles = length cells; stripes = stripes })
    scope-plan end = stands-plan e words scope.some scope.few scope.table scope.schedule scope.can cells k groups stripes instances are end stands
