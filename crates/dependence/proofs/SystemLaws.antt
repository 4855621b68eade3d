-- Each conflicting pair meets all rows of one of the systems.
use Rattle.std.proofs.Common.{◌≡◌, refl, sym, ap, ◌∙◌, subst, ℕ, zero, suc, ◌<◌, ◌≤◌, ◌+◌, ◌-◌, ◌⊎◌, inl, inr, ℤ, pos, ◌≤ℤ◌, ◌<ℤ◌, Bool, true, false, ◌||◌, nat_lt, Option, Some, None, List, [], ◌++◌, map, take, length, length-take-le, get_or, lt-ltb, arith}
use Rattle.std.specs.Prelude.{if◌then◌else◌, is_some}
use Rattle.std.specs.List.{AllByRecursion, range_with_len, flat_map}
use Rattle.std.proofs.lemmas.Int.{ints}
use Rattle.std.proofs.lemmas.Option.{slice_get_within}
use Rattle.std.proofs.lemmas.List.FromFn.{get_or-map-range_with_len, length-map-range_with_len}
use Rattle.affine.specs.declared.row.Row.{Row}
use Rattle.affine.specs.Forms.{Affine}
use Rattle.affine.specs.Rows.{Meets}
use Rattle.plain_lemmas.proofs.MembershipLaws.{all-has, All-from, any-from-has, has-map, map-has, has-flat_map}
use Rattle.plain_lemmas.specs.Lists.{Has}
use Rattle.nest_lang.specs.declared.tree.AccessRef.{AccessRef}
use Rattle.domain.specs.declared.chunk.Chunk.{Chunk}
use Rattle.domain.specs.Tables.{Table, Block, Access, depth, block_at, access_at, counters, IsTable}
use Rattle.domain.specs.Instances.{Instance, block_of, Predicted, place, padded}
use Rattle.domain.specs.Footprints.{LiesAbout, Expects, Touches, Conflict}
use Rattle.dependence.specs.Comparisons.{point, AtX, AtY, AtMost, Holds, row_for}
use Rattle.dependence.specs.Systems.{comparisons, found_access, system, systems, systems_of, refs, refs_of, pairs, cases, rows_for, referred, first_counter, inner_counters, meeting, equal_places, rising_place}
use Rattle.dependence.specs.Laws.{beside, IsPair, PairHasSystem}
use Rattle.dependence.proofs.SumLaws.{value_at-take}
use Rattle.dependence.proofs.RowLaws.{meets-from-holds}
use Rattle.dependence.proofs.RangeLaws.{all-append, has-range}
use Rattle.dependence.proofs.LexLaws.{Rises, lex-cases}
use Rattle.dependence.proofs.LaunchLaws.{TripsHold, trips-hold}
use Rattle.dependence.proofs.ComparisonLaws.{Sides, counts-of, place-is, first-holds, inner-holds, meeting-holds, equal-holds, rising-holds}

abbrev pub ref-of : Instance → ℕ → AccessRef
ref-of x access = record { block = x.block; access = access }

-- ---- the sides of the joint variables

pub on_x : (t : Table) (chunk : Chunk) (x y : Instance) → Predicted t chunk x → Sides (beside t chunk x y) AtX x.at
on_x t chunk x y p f = value_at-take (counters t (block_of t x)) f x.at p.is.rest

pub on_y : (t : Table) (chunk : Chunk) (x y : Instance) → Predicted t chunk y → Sides (beside t chunk x y) AtY y.at
on_y t chunk x y q f = value_at-take (counters t (block_of t y)) f y.at q.is.rest

pub long : (D : ℕ) (t : Table) (chunk : Chunk) (x : Instance) → IsTable D t → Predicted t chunk x → length (take (counters t (block_of t x)) x.at) ≡ counters t (block_of t x)
long D t chunk x is p = let c = counts-of D t chunk x is p in length-take-le (counters t (block_of t x)) x.at (omega (arith, c.inside, p.is.size))

-- ---- the padded points

pub padded-at : (t : Table) (x : Instance) (k : ℕ) → k < depth t → get_or (padded t x) k (pos 0) ≡ place t (block_of t x) x.at k
unfolding padded
padded-at t x k l = get_or-map-range_with_len (place t (block_of t x) x.at) 0 (depth t) k k (pos 0) l (omega arith)

pub length-padded : (t : Table) (x : Instance) → length (padded t x) ≡ depth t
unfolding padded
length-padded t x = length-map-range_with_len (place t (block_of t x) x.at) 0 (depth t)

-- ---- what a system says

-- the points are equal before place k, where x is less, if it is a place
pub record Leads (t : Table) (x y : Instance) (k : ℕ) : Type 0 where
  pub inside : k ≤ depth t
  pub same : (m : ℕ) → m < k → place t (block_of t x) x.at m ≡ place t (block_of t y) y.at m
  pub less : k < depth t → place t (block_of t x) x.at k <ℤ place t (block_of t y) y.at k

-- the access of a number, or none
abbrev pub access_of : Table → Instance → ℕ → Access
access_of t x number = found_access (access_at (block_of t x) number)

pub comparisons-hold : (D : ℕ) (t : Table) (L : ℤ) (chunk : Chunk) (x y : Instance) → IsTable D t → TripsHold t chunk → chunk.turns ≤ℤ L → Predicted t chunk x → Predicted t chunk y
    → (a b : ℕ) (address : ℤ) → Expects (access_of t x a) x.at address → Expects (access_of t y b) y.at address
    → (c : ℕ) → Leads t x y (c - 1) → AllByRecursion (Holds (beside t chunk x y)) (comparisons t L (ref-of x a) (ref-of y b) c)
unfolding comparisons
comparisons-hold D t L chunk x y is launched short p q a b address reach other c leads =
    let j = beside t chunk x y in
    let P = Holds j in
    let X = block_of t x in
    let Y = block_of t y in
    let here = on_x t chunk x y p in
    let there = on_y t chunk x y q in
    let is-p = place-is D t chunk x is launched p in
    let is-q = place-is D t chunk y is launched q in
    let from = launched.first in
    let places = equal_places t X Y (c - 1) ++ rising_place t X Y (c - 1) in
    let meets = meeting (depth t) (access_of t x a) (access_of t y b) ++ places in
    let of-y = inner_counters t Y AtY ++ meets in
    let of-x = inner_counters t X AtX ++ of-y in
    let first-y = first_counter t L AtY ++ of-x in (
      omega (arith, ints, from),
      all-append P (first_counter t L AtX) first-y (first-holds D t chunk x L j AtX is p short refl here)
          (all-append P (first_counter t L AtY) of-x (first-holds D t chunk y L j AtY is q short refl there)
          (all-append P (inner_counters t X AtX) of-y (inner-holds D t chunk x j AtX is launched p here)
          (all-append P (inner_counters t Y AtY) meets (inner-holds D t chunk y j AtY is launched q there)
          (all-append P (meeting (depth t) (access_of t x a) (access_of t y b)) places (meeting-holds (depth t) (access_of t x a) (access_of t y b) j x.at y.at address here there reach other)
          (all-append P (equal_places t X Y (c - 1)) (rising_place t X Y (c - 1)) (equal-holds t X Y j x.at y.at (place t X x.at) (place t Y y.at) (c - 1) here there is-p is-q leads.inside leads.same)
          (rising-holds t X Y j x.at y.at (place t X x.at) (place t Y y.at) (c - 1) here there is-p is-q leads.less)))))),
    )

-- ---- which systems there are

pub has-ref : (t : Table) (rank access : ℕ) → rank < length t.blocks → 1 ≤ access → access ≤ length (block_at t rank).accesses → Has (refs t) (record { block = rank; access = access })
has-ref t rank access l from to =
    has-flat_map (refs_of t) (range_with_len 0 (length t.blocks)) rank _ (has-range 0 (length t.blocks) rank (omega arith) (omega arith))
    (has-map (λ (number : ℕ). record { block = rank; access = number }) (range_with_len 1 (length (block_at t rank).accesses)) access (has-range 1 (length (block_at t rank).accesses) access from (omega arith)))

has-system : (t : Table) (L : ℤ) (a b : AccessRef) (c : ℕ) → Has (refs t) a → Has (refs t) b → pairs (referred t a) (referred t b) ≡ true → Has (cases t a b) c → Has (systems t L) (system t L a b c)
unfolding systems
has-system t L a b c in-a in-b both in-c =
    has-flat_map (λ a. flat_map (systems_of t L a) (refs t)) (refs t) a _ in-a
    (has-flat_map (systems_of t L a) (refs t) b _ in-b
    (by (pairs (referred t a) (referred t b)) both))
  where
    by : (w : Bool) → w ≡ true → Has (if w then map (system t L a b) (cases t a b) else []) (system t L a b c)
    by true e = has-map (system t L a b) (cases t a b) c in-c
    by false e = cc

some-line : (line : Option Affine) (low high : ℤ) (at : List ℤ) (address : ℤ) → LiesAbout line low high at address → is_some line ≡ true
some-line None low high at address h = absurd h
some-line (Some form) low high at address h = refl

are_pair : (a b : Access) (at over : List ℤ) (address : ℤ) (s r : Bool) → Expects a at address → Expects b over address → a.stores ≡ s → b.stores ≡ r → (s || r) ≡ true → pairs a b ≡ true
are_pair a b at over address s r h k e f or =
    rw (e, f, or, some-line a.line a.low a.high at address h, some-line b.line b.low b.high over address k) refl

-- the access with this number, a store or a load, has the address in its expected interval
pub record Reaches (t : Table) (x : Instance) (address : ℤ) (stores : Bool) : Type 0 where
  pub access : ℕ
  pub from : 1 ≤ access
  pub to : access ≤ length (block_of t x).accesses
  pub kind : (access_of t x access).stores ≡ stores
  pub expected : Expects (access_of t x access) x.at address

numbered : (b : Block) (number : ℕ) (a : Access) → access_at b number ≡ Some a → (1 ≤ number) × (number ≤ length b.accesses)
numbered b zero a e = cc
numbered b (suc n) a e = let l = slice_get_within b.accesses n a e in (omega arith, omega arith)

reaches : (t : Table) (x : Instance) (address : ℤ) (stores : Bool) → Touches t x address stores → Reaches t x address stores
reaches t x address stores h =
    let both = numbered (block_of t x) h.number h.access h.is in
    let same : access_of t x h.number ≡ h.access = ap found_access h.is in
    record { access = h.number; from = both.0; to = both.1; kind = ap (λ (a : Access). a.stores) same ∙ h.kind; expected = subst (λ (a : Access). Expects a x.at address) (sym same) h.expected }

-- two accesses, one a store, that reach one address
pub record Met (t : Table) (x y : Instance) : Type 0 where
  pub address : ℤ
  pub stores : Bool
  pub stores-too : Bool
  pub first : Reaches t x address stores
  pub second : Reaches t y address stores-too
  pub one : (stores || stores-too) ≡ true

met : (t : Table) (words : ℤ) (x y : Instance) → Conflict t words x y → Met t x y
met t words x y (address, inl (w, inl r)) = record { address = address; stores = true; stores-too = false; first = reaches t x address true w; second = reaches t y address false r.0; one = refl }
met t words x y (address, inl (w, inr v)) = record { address = address; stores = true; stores-too = true; first = reaches t x address true w; second = reaches t y address true v; one = refl }
met t words x y (address, inr (w, inl r)) = record { address = address; stores = false; stores-too = true; first = reaches t x address false r.0; second = reaches t y address true w; one = refl }
met t words x y (address, inr (w, inr v)) = record { address = address; stores = true; stores-too = true; first = reaches t x address true v; second = reaches t y address true w; one = refl }

-- the system of a pair, and which of the cases it is
pub record Found (t : Table) (L : ℤ) (chunk : Chunk) (x y : Instance) : Type 0 where
  pub first : ℕ
  pub second : ℕ
  pub case : ℕ
  pub has : Has (systems t L) (system t L (ref-of x first) (ref-of y second) case)
  pub holds : AllByRecursion (Holds (beside t chunk x y)) (comparisons t L (ref-of x first) (ref-of y second) case)
  pub which : (case ≤ depth t) ⊎ ((padded t x ≡ padded t y) × (x.block < y.block))

pub found : (D : ℕ) (t : Table) (L words : ℤ) (chunk : Chunk) (x y : Instance) → IsTable D t → IsPair t L words chunk x y → Found t L chunk x y
found D t L words chunk x y is pair = by (lex-cases (padded t x) (padded t y) (pos x.block) (pos y.block) (length-padded t x ∙ sym (length-padded t y)) pair.order)
  where
    m : Met t x y
    m = met t words x y pair.conflict

    a : AccessRef
    a = ref-of x m.first.access

    b : AccessRef
    b = ref-of y m.second.access

    at-case : (c : ℕ) → Has (cases t a b) c → Leads t x y (c - 1) → (c ≤ depth t) ⊎ ((padded t x ≡ padded t y) × (x.block < y.block)) → Found t L chunk x y
    at-case c in-c leads which = record {
      first = m.first.access;
      second = m.second.access;
      case = c;
      has = has-system t L a b c (has-ref t x.block m.first.access pair.first.is.block m.first.from m.first.to) (has-ref t y.block m.second.access pair.second.is.block m.second.from m.second.to) (are_pair (referred t a) (referred t b) x.at y.at m.address m.stores m.stores-too m.first.expected m.second.expected m.first.kind m.second.kind m.one) in-c;
      holds = comparisons-hold D t L chunk x y is (trips-hold D t words chunk pair.launch.instances is pair.launch.first pair.launch.launched) pair.launch.turns pair.first pair.second m.first.access m.second.access m.address m.first.expected m.second.expected c leads;
      which = which;
    }

    equal-at : (k : ℕ) → k < depth t → get_or (padded t x) k (pos 0) ≡ get_or (padded t y) k (pos 0) → place t (block_of t x) x.at k ≡ place t (block_of t y) y.at k
    equal-at k l e = sym (padded-at t x k l) ∙ e ∙ padded-at t y k l

    at-place : (c : ℕ) → Rises (padded t x) (padded t y) c → Found t L chunk x y
    at-place c r =
        let inside : c < depth t = omega (arith, r.inside, length-padded t x) in
        let back : suc c - 1 ≡ c = omega arith in
        at-case (suc c) (has-range 1 (depth t + (if nat_lt x.block y.block then 1 else 0)) (suc c) (omega arith) (omega arith))
        (subst (Leads t x y) (sym back) (record { inside = omega arith; same = λ k l. equal-at k (omega arith) (r.same k l); less = λ l. rw (← padded-at t x c inside, ← padded-at t y c inside) r.less }))
        (inl (omega arith))

    after : (padded t x ≡ padded t y) × (pos x.block <ℤ pos y.block) → Found t L chunk x y
    after (same, less) =
        let below : x.block < y.block = omega (arith, ints) in
        let back : suc (depth t) - 1 ≡ depth t = omega arith in
        at-case (suc (depth t)) (last (nat_lt x.block y.block) (lt-ltb x.block y.block below))
        (subst (Leads t x y) (sym back) (record { inside = omega arith; same = λ k l. equal-at k l (ap (λ (p : List ℤ). get_or p k (pos 0)) same); less = λ l. absurd (omega arith) }))
        (inr (same, below))
      where
        last : (w : Bool) → w ≡ true → Has (range_with_len 1 (depth t + (if w then 1 else 0))) (suc (depth t))
        last true e = has-range 1 (depth t + 1) (suc (depth t)) (omega arith) (omega arith)
        last false e = cc

    by : ((c : ℕ) × Rises (padded t x) (padded t y) c) ⊎ ((padded t x ≡ padded t y) × (pos x.block <ℤ pos y.block)) → Found t L chunk x y
    by (inl r) = at-place r.0 r.1
    by (inr both) = after both

-- ---- and its rows are met

pub rows-met : (D : ℕ) (t : Table) (chunk : Chunk) (x y : Instance) (a b : ℕ) (cs : List AtMost) → IsTable D t → Predicted t chunk x → Predicted t chunk y → AllByRecursion (Holds (beside t chunk x y)) cs
    → (row : Row) → Has (rows_for t (ref-of x a) (ref-of y b) cs) row → Meets (point (beside t chunk x y)) row
rows-met D t chunk x y a b cs is p q all row h =
    let nx = counters t (block_of t x) in
    let ny = counters t (block_of t y) in
    let j = beside t chunk x y in
    let (c, k, e) = map-has (row_for nx ny) cs row h in
    subst (Meets (point j)) (sym e) (meets-from-holds nx ny j c (long D t chunk x is p) (long D t chunk y is q) (all-has (Holds j) cs c all k))

pub pair_has_system : PairHasSystem
pair_has_system D t L words chunk x y is pair =
    let f = found D t L words chunk x y is pair in
    let cs = comparisons t L (ref-of x f.first) (ref-of y f.second) f.case in
    any-from-has _ (systems t L) (system t L (ref-of x f.first) (ref-of y f.second) f.case) f.has
    (refl, refl, All-from _ _ (rows-met D t chunk x y f.first f.second cs is pair.first pair.second f.holds))
