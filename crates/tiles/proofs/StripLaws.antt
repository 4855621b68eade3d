-- The strips of a cell's runs have exactly the addresses that are expected of the cell's instances.
use Rattle.std.proofs.Common.{◌≡◌, refl, sym, ap, ◌∙◌, subst, ℕ, zero, suc, ◌<◌, ◌≤◌, ◌+◌, ◌^◌, ℤ, pos, ◌+ℤ◌, ◌-ℤ◌, ◌≤ℤ◌, ◌<ℤ◌, unsigned_abs, Bool, true, false, Option, Some, None, List, [], ◌∷◌, map, length, replicate, inl, inr, arith, nat_lt}
use Rattle.std.specs.Prelude.{int_lt, if◌then◌else◌, slice_get}
use Rattle.std.specs.List.{flat_map, range_with_len}
use Rattle.std.proofs.Math.IntN.{*ℤ_comm, *ℤ-zero}
use Rattle.std.proofs.lemmas.Int.{ints}
use Rattle.std.proofs.lemmas.List.{get_or_default}
use Rattle.plain_lemmas.proofs.IntegerLaws.{int_lt-true, int_lt-false}
use Rattle.affine.specs.Forms.{Affine, AllWithinSize, value_at}
use Rattle.affine.specs.Sums.{dot}
use Rattle.affine.proofs.SumLaws.{dot-comm}
use Rattle.core_steps.specs.declared.plan.Tile.{Tile}
use Rattle.plain_lemmas.specs.Lists.{Has}
use Rattle.domain.specs.Tables.{Table, Access, IsTable, access_at, counters, cut, depth}
use Rattle.domain.specs.Instances.{Instance, block_of, Predicted}
use Rattle.domain.specs.Footprints.{Expects, LiesAbout, IsListOf, Touches, Writes}
use Rattle.domain.proofs.CounterLaws.{launched_counters}
use Rattle.domain.proofs.LaunchedLaws.{launched_words}
use Rattle.domain.proofs.PointLaws.{dot-zeros}
use Rattle.transform.specs.Schedules.{IsSchedule}
use Rattle.skeletons.specs.Cells.{Cell, Extent, IsLaunch, LiesIn}
use Rattle.skeletons.specs.Runs.{HasRuns, IsDirection, IsRun, Run}
use Rattle.skeletons.proofs.SideLaws.{cut-small, zeros-small}
use Rattle.tiles.specs.declared.strip.Strip.{Strip}
use Rattle.tiles.specs.Plans.{CellReads, CellWrites, IsTileOf}
use Rattle.tiles.specs.Strips.{IsListOfWords, IsPlannedRun, IsSmallRun, IsStored, IsWordOf, access_strips, address_at, line_strips, load_strips, loads_of_run, offset_at, offset_count, run_strip, store_strips, stores_of_run}
use Rattle.tiles.proofs.CountLaws.{has-range, range-has}
use Rattle.plain_lemmas.proofs.MembershipLaws.{flat_map-has, has-flat_map, has-map, map-has}
use Rattle.tiles.proofs.RunLaws.{dot-along, run-lies, run_at, run_of, step-long}

-- ---- lists

has-slice_get : {X : Type 0} (xs : List X) (x : X) → Has xs x → (k : ℕ) × (slice_get xs k ≡ Some x)
has-slice_get [] x h = absurd h
has-slice_get (y ∷ ys) x (inl e) = (0, ap Some (sym e))
has-slice_get (y ∷ ys) x (inr h) = let (k, is) = has-slice_get ys x h in (suc k, is)

pub slice_get-has : {X : Type 0} (xs : List X) (k : ℕ) (x : X) → slice_get xs k ≡ Some x → Has xs x
slice_get-has [] zero x e = absurd (cc)
slice_get-has [] (suc k) x e = absurd (cc)
slice_get-has (y ∷ ys) zero x e = inl (cc)
slice_get-has (y ∷ ys) (suc k) x e = inr (slice_get-has ys k x e)

-- ---- the addresses of one strip

pub strip-address : (r : Run) (form : Affine) (offset : ℤ) (k : ℕ) → length r.first.at ≡ length r.step → address_at (run_strip r form offset) k ≡ value_at form (run_at r k).at +ℤ offset
strip-address r form offset k size =
    let line = dot-along form.coef r.first.at r.step (pos k) size in
    let turn = *ℤ_comm (dot form.coef r.step) (pos k) in
    omega (arith, ints, line, turn)

-- a strip of an access: its form and its offset
pub record IsStripOf (r : Run) (a : Access) (s : Strip) : Type 0 where
  pub form : Affine
  pub line : a.line ≡ Some form
  pub place : ℕ
  pub below : place < offset_count a
  pub is : s ≡ run_strip r form (offset_at a place)

pub access-strip : (r : Run) (a : Access) (s : Strip) → Has (access_strips r a) s → IsStripOf r a s
access-strip r a s h = by a.line refl h
  where
    by : (line : Option Affine) → a.line ≡ line → Has (line_strips r line (map (offset_at a) (range_with_len 0 (offset_count a)))) s → IsStripOf r a s
    by None e h = absurd h
    by (Some form) e h =
        let (offset, there, is) = map-has (run_strip r form) (map (offset_at a) (range_with_len 0 (offset_count a))) s h in
        let (k, inside, at) = map-has (offset_at a) (range_with_len 0 (offset_count a)) offset there in
        let (from, to) = range-has (offset_count a) 0 k inside in
        record { form = form; line = e; place = k; below = omega arith; is = is ∙ ap (run_strip r form) at }

pub strip-access : (r : Run) (a : Access) (form : Affine) (k : ℕ) → a.line ≡ Some form → k < offset_count a → Has (access_strips r a) (run_strip r form (offset_at a k))
strip-access r a form k line below =
    subst (λ (o : Option Affine). Has (line_strips r o (map (offset_at a) (range_with_len 0 (offset_count a)))) (run_strip r form (offset_at a k))) (sym line)
    (has-map (run_strip r form) (map (offset_at a) (range_with_len 0 (offset_count a))) (offset_at a k)
    (has-map (offset_at a) (range_with_len 0 (offset_count a)) k (has-range (offset_count a) 0 k (omega arith) (omega arith))))

-- the offsets are those from the least to the greatest
offset-within : (a : Access) (k : ℕ) → k < offset_count a → (a.low ≤ℤ offset_at a k) × (offset_at a k ≤ℤ a.high)
offset-within a k below = by (int_lt a.high a.low) refl below
  where
    by : (b : Bool) → int_lt a.high a.low ≡ b → k < (if b then 0 else unsigned_abs (a.high -ℤ a.low) + 1) → (a.low ≤ℤ offset_at a k) × (offset_at a k ≤ℤ a.high)
    by true e l = absurd (omega arith)
    by false e l = let order = int_lt-false a.high a.low e in (omega (arith, ints), omega (arith, ints, order, l))

within-offset : (a : Access) (offset : ℤ) → a.low ≤ℤ offset → offset ≤ℤ a.high → (k : ℕ) × (k < offset_count a) × (offset ≡ offset_at a k)
within-offset a offset from to = (unsigned_abs (offset -ℤ a.low), by (int_lt a.high a.low) refl, omega (arith, ints, from))
  where
    by : (b : Bool) → int_lt a.high a.low ≡ b → unsigned_abs (offset -ℤ a.low) < (if b then 0 else unsigned_abs (a.high -ℤ a.low) + 1)
    by true e = absurd (let order = int_lt-true a.high a.low e in omega (arith, ints, from, to, order))
    by false e = omega (arith, ints, from, to)

strip-expects : (r : Run) (a : Access) (s : Strip) (k : ℕ) (address : ℤ) → length r.first.at ≡ length r.step → IsStripOf r a s → address ≡ address_at s k → Expects a (run_at r k).at address
strip-expects r a s k address size h at =
    subst (λ (o : Option Affine). LiesAbout o a.low a.high (run_at r k).at address) (sym h.line)
    (let (from, to) = offset-within a h.place h.below in
    let is : address ≡ value_at h.form (run_at r k).at +ℤ offset_at a h.place = at ∙ ap (λ (z : Strip). address_at z k) h.is ∙ strip-address r h.form (offset_at a h.place) k size in
    (omega (arith, ints, is, from), omega (arith, ints, is, to)))

expects-strip : (r : Run) (a : Access) (k : ℕ) (address : ℤ) → length r.first.at ≡ length r.step → Expects a (run_at r k).at address → (s : Strip) × Has (access_strips r a) s × (s.count ≡ r.count) × (address ≡ address_at s k)
expects-strip r a k address size h = by a.line refl h
  where
    by : (line : Option Affine) → a.line ≡ line → LiesAbout line a.low a.high (run_at r k).at address → (s : Strip) × Has (access_strips r a) s × (s.count ≡ r.count) × (address ≡ address_at s k)
    by None e h = absurd h
    by (Some form) e h =
        let low = h.0 in let high = h.1 in
        let (place, below, is) = within-offset a (address -ℤ value_at form (run_at r k).at) (omega (arith, ints, low)) (omega (arith, ints, high)) in
        let line = strip-address r form (offset_at a place) k size in
        (run_strip r form (offset_at a place), strip-access r a form place e below, refl, omega (arith, ints, is, line))

-- ---- the strips of a run's accesses that store, or of those that load

pub record IsStripBy (t : Table) (r : Run) (stores : Bool) (s : Strip) : Type 0 where
  pub access : Access
  pub has : Has (block_of t r.first).accesses access
  pub kind : access.stores ≡ stores
  pub strip : Has (access_strips r access) s

store-strip : (t : Table) (r : Run) (s : Strip) → Has (stores_of_run t r) s → IsStripBy t r true s
store-strip t r s h =
    let (a, there, is) = flat_map-has (store_strips r) (block_of t r.first).accesses s h in
    by a there a.stores refl is
  where
    by : (a : Access) → Has (block_of t r.first).accesses a → (b : Bool) → a.stores ≡ b → Has (if b then access_strips r a else []) s → IsStripBy t r true s
    by a there true e k = record { access = a; has = there; kind = e; strip = k }
    by a there false e k = absurd k

load-strip : (t : Table) (r : Run) (s : Strip) → Has (loads_of_run t r) s → IsStripBy t r false s
load-strip t r s h =
    let (a, there, is) = flat_map-has (load_strips r) (block_of t r.first).accesses s h in
    by a there a.stores refl is
  where
    by : (a : Access) → Has (block_of t r.first).accesses a → (b : Bool) → a.stores ≡ b → Has (if b then [] else access_strips r a) s → IsStripBy t r false s
    by a there true e k = absurd k
    by a there false e k = record { access = a; has = there; kind = e; strip = k }

strip-store : (t : Table) (r : Run) (s : Strip) → IsStripBy t r true s → Has (stores_of_run t r) s
strip-store t r s h = has-flat_map (store_strips r) (block_of t r.first).accesses h.access s h.has (subst (λ (b : Bool). Has (if b then access_strips r h.access else []) s) (sym h.kind) h.strip)

strip-load : (t : Table) (r : Run) (s : Strip) → IsStripBy t r false s → Has (loads_of_run t r) s
strip-load t r s h = has-flat_map (load_strips r) (block_of t r.first).accesses h.access s h.has (subst (λ (b : Bool). Has (if b then [] else access_strips r h.access) s) (sym h.kind) h.strip)

-- an instance of the run touches the addresses of these strips, and no others
touches-at : (t : Table) (r : Run) (stores : Bool) (s : Strip) (k : ℕ) (address : ℤ) → length r.first.at ≡ length r.step → IsStripBy t r stores s → address ≡ address_at s k → Touches t (run_at r k) address stores
touches-at t r stores s k address size h at =
    let (number, is) = has-slice_get (block_of t r.first).accesses h.access h.has in
    record { number = suc number; access = h.access; is = is; kind = h.kind; expected = strip-expects r h.access s k address size (access-strip r h.access s h.strip) at }

-- an address of a strip
pub record IsOn (t : Table) (r : Run) (stores : Bool) (k : ℕ) (address : ℤ) : Type 0 where
  pub strip : Strip
  pub by : IsStripBy t r stores strip
  pub count : strip.count ≡ r.count
  pub is : address ≡ address_at strip k

touched-on : (t : Table) (r : Run) (stores : Bool) (k : ℕ) (address : ℤ) → length r.first.at ≡ length r.step → Touches t (run_at r k) address stores → IsOn t r stores k address
touched-on t r stores k address size h = at h.number refl
  where
    at : (n : ℕ) → h.number ≡ n → IsOn t r stores k address
    at zero e = absurd (let f : None ≡ Some h.access = sym (ap (access_at (block_of t r.first)) e) ∙ h.is in cc)
    at (suc n) e =
        let f : slice_get (block_of t r.first).accesses n ≡ Some h.access = sym (ap (access_at (block_of t r.first)) e) ∙ h.is in
        let (s, there, count, is) = expects-strip r h.access k address size h.expected in
        record { strip = s; by = record { access = h.access; has = slice_get-has (block_of t r.first).accesses n h.access f; kind = h.kind; strip = there }; count = count; is = is }

-- one of the strips has the address
pub record HasStrip (strips : List Strip) (address : ℤ) : Type 0 where
  pub strip : Strip
  pub has : Has strips strip
  pub place : ℕ
  pub below : place < strip.count
  pub is : address ≡ address_at strip place

strip-count : (r : Run) (a : Access) (s : Strip) → Has (access_strips r a) s → s.count ≡ r.count
strip-count r a s h = ap (λ (z : Strip). z.count) (access-strip r a s h).is

module _ (n : ℕ) (e : Extent) (words : ℕ) (some : 1 ≤ n) (few : n ≤ 6) (table : IsTable n e.table) (schedule : IsSchedule n e.schedule) (launch : IsLaunch e.table e.chunk) (over : launch.words ≡ pos words) where
  pub written : (x : Instance) → Predicted e.table e.chunk x → (address : ℤ) → Writes e.table x address → (pos 0 ≤ℤ address) × (address <ℤ pos words)
  written x p address w = subst (λ (z : ℤ). (pos 0 ≤ℤ address) × (address <ℤ z)) over (launched_words e.table launch.words e.chunk launch.instances launch.launched x p address w)

  module _ (direction : List ℤ) (last : IsDirection n e.schedule direction) where
    first-long : (cell : Cell) (r : Run) → IsRun e direction cell r → length r.first.at ≡ length r.step
    first-long cell r is = is.first.predicted.is.size ∙ sym (step-long n e some few table schedule launch direction last r cell is)

    -- ---- one run

    pub on-run : (cell : Cell) (r : Run) (stores : Bool) (s : Strip) (k : ℕ) (address : ℤ) → IsRun e direction cell r → IsStripBy e.table r stores s → k < s.count → address ≡ address_at s k
        → LiesIn e cell (run_at r k) × Touches e.table (run_at r k) address stores
    on-run cell r stores s k address is h below at = (
      run-lies n e some few table schedule launch direction last cell r k is (let c = strip-count r h.access s h.strip in omega (arith, c, below)),
      touches-at e.table r stores s k address (first-long cell r is) h at,
    )

    -- its stores can be those of stripes
    stored : (cell : Cell) (r : Run) → words < 2 ^ 64 → IsRun e direction cell r → (s : Strip) → Has (stores_of_run e.table r) s → IsStored s
    stored cell r fits is s has = record {
      from = (let low = word.0 in omega (arith, ints, low, first));
      to = (let high = word.1 in omega (arith, ints, high, first, fits));
      single = λ one. ap (λ (z : Strip). z.step) strip.is ∙ ap (dot strip.form.coef) (zero-step (sym count ∙ one)) ∙ dot-comm strip.form.coef (replicate (depth e.table) (pos 0)) ∙ dot-zeros (depth e.table) strip.form.coef;
    }
      where
        h : IsStripBy e.table r true s
        h = store-strip e.table r s has

        strip : IsStripOf r h.access s
        strip = access-strip r h.access s h.strip

        count : s.count ≡ r.count
        count = strip-count r h.access s h.strip

        some-count : 1 ≤ s.count
        some-count = let m = is.some in omega (arith, m, count)

        at : LiesIn e cell (run_at r 0) × Touches e.table (run_at r 0) (address_at s 0) true
        at = on-run cell r true s 0 (address_at s 0) is h (omega (arith, some-count)) refl

        word : (pos 0 ≤ℤ address_at s 0) × (address_at s 0 <ℤ pos words)
        word = written (run_at r 0) at.0.predicted (address_at s 0) at.1

        first : address_at s 0 ≡ s.first
        first = let z = *ℤ-zero s.step in omega (arith, ints, z)

        zero-step : r.count ≡ 1 → r.step ≡ replicate (depth e.table) (pos 0)
        zero-step one = is.step ∙ ap (λ (c : ℕ). if nat_lt 1 c then cut (counters e.table (block_of e.table r.first)) direction else replicate (depth e.table) (pos 0)) one

    near-counters : (x : Instance) → Predicted e.table e.chunk x → AllWithinSize (2 ^ 33) x.at
    near-counters x p k d inside =
        let near = launched_counters n e.table launch.words e.chunk launch.instances table launch.first launch.some launch.launched x p k in
        let from = near.0 in let to = near.1 in let far = launch.far in
        let same = get_or_default x.at k (pos 0) d inside in
        subst (λ (z : ℤ). unsigned_abs z ≤ 2 ^ 33) same (omega (arith, ints, from, to, far))

    small : (cell : Cell) (r : Run) → AllWithinSize (2 ^ 20) direction → IsRun e direction cell r → IsSmallRun r
    small cell r short is = record {
      some = is.some;
      long = first-long cell r is;
      by = subst (AllWithinSize (2 ^ 20)) (sym is.step) (short-step (nat_lt 1 r.count));
      all = λ k below. near-counters (run_at r k) (run-lies n e some few table schedule launch direction last cell r k is below).predicted;
    }
      where
        short-step : (b : Bool) → AllWithinSize (2 ^ 20) (if b then cut (counters e.table (block_of e.table r.first)) direction else replicate (depth e.table) (pos 0))
        short-step true = cut-small (counters e.table (block_of e.table r.first)) (2 ^ 20) direction short
        short-step false = zeros-small (depth e.table) (2 ^ 20)

    pub planned : (cell : Cell) (r : Run) → words < 2 ^ 64 → AllWithinSize (2 ^ 20) direction → IsRun e direction cell r → IsPlannedRun e.table r
    planned cell r fits short is = record {
      block = is.first.predicted.is.block;
      small = small cell r short is;
      stores = stored cell r fits is;
    }

  -- ---- the runs of a cell

  module _ (cell : Cell) (runs : List Run) (h : HasRuns n e cell runs) where
    pub strip-writes : (s : Strip) (k : ℕ) → Has (flat_map (stores_of_run e.table) runs) s → k < s.count → CellWrites e cell (address_at s k)
    strip-writes s k has below =
        let (r, there, inside) = flat_map-has (stores_of_run e.table) runs s has in
        let (lies, touches) = on-run h.direction h.last cell r true s k (address_at s k) ((h.runs.has r).0 there) (store-strip e.table r s inside) below refl in
        record { at = run_at r k; lies = lies; writes = touches }

    pub writes-strip : (address : ℤ) → CellWrites e cell address → HasStrip (flat_map (stores_of_run e.table) runs) address
    writes-strip address w =
        let found = run_of n e some few table schedule launch h.direction h.last cell w.at w.lies in
        let on = touched-on e.table found.run true found.place address (first-long h.direction h.last cell found.run found.is) (subst (λ (x : Instance). Writes e.table x address) found.at w.writes) in
        record {
          strip = on.strip;
          has = has-flat_map (stores_of_run e.table) runs found.run on.strip ((h.runs.has found.run).1 found.is) (strip-store e.table found.run on.strip on.by);
          place = found.place;
          below = (let b = found.below in let c = on.count in omega (arith, b, c));
          is = on.is;
        }

    pub writes-list : (addresses : List ℕ) → IsListOfWords words (flat_map (stores_of_run e.table) runs) addresses → IsListOf (CellWrites e cell) addresses
    writes-list addresses is = record {
      rising = is.rising;
      has = λ address. (
        λ c. let w = (is.has address).0 c in subst (CellWrites e cell) (sym w.is) (strip-writes w.strip w.place w.has w.below),
        λ w.
            let found = writes-strip (pos address) w in
            let inside = (written w.at w.lies.predicted (pos address) w.writes).1 in
            (is.has address).1 (record { strip = found.strip; has = found.has; place = found.place; below = found.below; is = found.is; word = omega (arith, ints, inside) }),
      );
    }

    pub reads-list : (addresses : List ℕ) → IsListOfWords words (flat_map (loads_of_run e.table) runs) addresses → IsListOf (CellReads e words cell) addresses
    reads-list addresses is = record { rising = is.rising; has = λ address. (λ c. there address ((is.has address).0 c), λ r. (is.has address).1 (back address r)) }
      where
        there : (address : ℕ) → IsWordOf words (flat_map (loads_of_run e.table) runs) address → CellReads e words cell (pos address)
        there address w =
            let (r, inside, has) = flat_map-has (loads_of_run e.table) runs w.strip w.has in
            let (lies, touches) = on-run h.direction h.last cell r false w.strip w.place (pos address) ((h.runs.has r).0 inside) (load-strip e.table r w.strip has) w.below w.is in
            record { at = run_at r w.place; lies = lies; reads = (touches, omega (arith, ints), (let word = w.word in omega (arith, ints, word))) }

        back : (address : ℕ) → CellReads e words cell (pos address) → IsWordOf words (flat_map (loads_of_run e.table) runs) address
        back address r =
            let found = run_of n e some few table schedule launch h.direction h.last cell r.at r.lies in
            let on = touched-on e.table found.run false found.place (pos address) (first-long h.direction h.last cell found.run found.is) (subst (λ (x : Instance). Touches e.table x (pos address) false) found.at r.reads.0) in
            let word = r.reads.2 in let b = found.below in let c = on.count in
            record { strip = on.strip; has = has-flat_map (loads_of_run e.table) runs found.run on.strip ((h.runs.has found.run).1 found.is) (strip-load e.table found.run on.strip on.by); place = found.place; below = omega (arith, b, c); is = on.is; word = omega (arith, ints, word) }

    pub tile-is : (tile : Tile) → IsListOfWords words (flat_map (loads_of_run e.table) runs) tile.reads → IsListOfWords words (flat_map (stores_of_run e.table) runs) tile.writes → IsTileOf e words cell tile
    tile-is tile reads writes = record { reads = reads-list tile.reads reads; writes = writes-list tile.writes writes }
