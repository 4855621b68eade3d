-- A conflicting pair meets the rows of a system.
use Rattle.std.proofs.Common.{◌≡◌, refl, sym, ap, ◌∙◌, subst, ℕ, ◌<◌, ◌≤◌, ◌+◌, ◌-◌, inl, inr, ℤ, pos, negsuc, ◌+ℤ◌, ◌≤ℤ◌, ◌<ℤ◌, Bool, true, false, ◌&&◌, nat_lt, nat_eq, Option, Some, None, List, [], ◌∷◌, length, ltb-true, ltb-false, eqb-true, arith}
use Rattle.std.specs.Prelude.{if◌then◌else◌}
use Rattle.std.specs.List.{AllByRecursion}
use Rattle.std.proofs.lemmas.Int.{ints}
use Rattle.affine.specs.Forms.{Affine, value_at}
use Rattle.std.proofs.lemmas.Bool.{and_parts}
use Rattle.nest_lang.specs.declared.tree.Part.{Part}
use Rattle.nest_lang.specs.declared.tree.Part.TheVariants.{Head, Pre, Post}
use Rattle.domain.specs.declared.chunk.Chunk.{Chunk}
use Rattle.domain.specs.Tables.{Table, Block, Access, block_at, depth, zero_form, form_or_zero, trip_form, trip, repeats, counters, counters_by, turning, turning_by, is_post, IsTable}
use Rattle.domain.specs.Instances.{Instance, block_of, counter, InTurn, Tested, Predicted, place}
use Rattle.domain.proofs.WithinLaws.{turns-trip}
use Rattle.dependence.specs.Systems.{shifted, counter_form, place_form, greatest, first_counter, inner_counter, inner_counters, meeting, equal_place, equal_places, rising_place}
use Rattle.domain.specs.Footprints.{LiesAbout, Expects}
use Rattle.dependence.specs.Comparisons.{Joint, Term, AtX, AtY, value, AtMost, Holds}
use Rattle.dependence.proofs.SumLaws.{value-counter_form, value-shifted, value-zero_form}
use Rattle.dependence.proofs.RangeLaws.{all-range}
use Rattle.dependence.proofs.LaunchLaws.{counted, level-inside, TripsHold}

-- ---- the numbers of counters

pub record Counts (n turning level : ℕ) : Type 0 where
  pub most : n ≤ turning + 1
  pub least : turning ≤ n
  pub some : 1 ≤ turning
  pub inside : n ≤ level

counts : (p : Part) (w : Bool) (level : ℕ) → 1 ≤ counters_by p w level → Counts (counters_by p w level) (turning_by p level) level
counts Head true level h = record { most = omega arith; least = omega arith; some = omega arith; inside = omega arith }
counts Head false level h = record { most = omega arith; least = omega arith; some = omega arith; inside = omega arith }
counts Pre w level h = record { most = omega arith; least = omega arith; some = omega arith; inside = omega arith }
counts Post w level h = record { most = omega arith; least = omega arith; some = omega arith; inside = omega arith }

post-turns : (p : Part) (w : Bool) (level : ℕ) → is_post p ≡ true → turning_by p level ≡ counters_by p w level
post-turns Head w level h = cc
post-turns Pre w level h = cc
post-turns Post w level h = refl

pub counts-at : (D : ℕ) (t : Table) (rank : ℕ) → IsTable D t → rank < length t.blocks → Counts (counters t (block_at t rank)) (turning (block_at t rank)) (depth t)
counts-at D t rank is h =
    let b = block_at t rank in
    let c = counts b.part (repeats t (b.level - 1)) b.level (counted D t is rank h) in
    let l = level-inside D t is rank h in
    record { most = c.most; least = c.least; some = c.some; inside = omega (arith, c.inside, l) }

pub counts-of : (D : ℕ) (t : Table) (chunk : Chunk) (x : Instance) → IsTable D t → Predicted t chunk x → Counts (counters t (block_of t x)) (turning (block_of t x)) (depth t)
counts-of D t chunk x is p = counts-at D t x.block is p.is.block

-- ---- the padded point by its forms

if-equal : (a b : Bool) (u v w : ℤ) (F G H : Affine) (at : List ℤ) → (a ≡ true → u ≡ value_at F at) → (b ≡ true → v ≡ value_at G at) → w ≡ value_at H at
    → (if a then u else (if b then v else w)) ≡ value_at (if a then F else (if b then G else H)) at
if-equal true b u v w F G H at f g h = f refl
if-equal false true u v w F G H at f g h = g refl
if-equal false false u v w F G H at f g h = h

trip-is : (t : Table) (k : ℕ) (at : List ℤ) → trip t k at ≡ value_at (trip_form t k) at
unfolding trip
trip-is t k at = refl

pub place-is : (D : ℕ) (t : Table) (chunk : Chunk) (x : Instance) → IsTable D t → TripsHold t chunk → Predicted t chunk x → (k : ℕ) → k < depth t
    → place t (block_of t x) x.at k ≡ value_at (place_form t (block_of t x) k) x.at
place-is D t chunk x is launched p k l =
    if-equal (nat_lt k n) (is_post b.part && nat_eq k n) _ _ _ (counter_form (depth t) k) (trip_form t k) (zero_form (depth t)) x.at
    (λ e. sym (value-counter_form (depth t) k x.at l))
    (λ e. turns-trip (trip t k x.at) (launched.trips k x.at p.is.size (first e) l (turning-at e)) ∙ trip-is t k x.at)
    (sym (value-zero_form (depth t) x.at))
  where
    b : Block
    b = block_of t x

    n : ℕ
    n = counters t b

    c : Counts n (turning b) (depth t)
    c = counts-of D t chunk x is p

    same : (is_post b.part && nat_eq k n) ≡ true → k ≡ n
    same e = eqb-true k n ((and_parts (is_post b.part) (nat_eq k n) e).1)

    turns : (is_post b.part && nat_eq k n) ≡ true → turning b ≡ k
    turns e = post-turns b.part (repeats t (b.level - 1)) b.level ((and_parts (is_post b.part) (nat_eq k n) e).0) ∙ sym (same e)

    first : (is_post b.part && nat_eq k n) ≡ true → 1 ≤ k
    first e = let i = turns e in let j = c.some in omega arith

    turning-at : (is_post b.part && nat_eq k n) ≡ true → InTurn t chunk k x.at
    turning-at e = subst (λ m. InTurn t chunk m x.at) (turns e) p.turn

-- ---- inner counters

pub inner-within : (D : ℕ) (t : Table) (chunk : Chunk) (x : Instance) → IsTable D t → TripsHold t chunk → Predicted t chunk x → (k : ℕ) → 1 ≤ k → k < counters t (block_of t x)
    → (pos 0 ≤ℤ counter x.at k) × (counter x.at k ≤ℤ value_at (greatest t (block_of t x) k) x.at)
inner-within D t chunk x is launched p k from to = at (nat_lt k (turning b)) refl
  where
    b : Block
    b = block_of t x

    c : Counts (counters t b) (turning b) (depth t)
    c = counts-of D t chunk x is p

    Within : Affine → Type 0
    Within most = (pos 0 ≤ℤ counter x.at k) × (counter x.at k ≤ℤ value_at most x.at)

    tested : (turn trip : ℤ) → pos 0 ≤ℤ trip → Tested turn trip → (pos 0 ≤ℤ turn) × (turn ≤ℤ trip)
    tested turn trip h (inl e) = (omega (arith, ints), omega (arith, ints))
    tested turn trip h (inr both) = both

    last : k ≡ turning b → Within (trip_form t k)
    last e =
        let some = c.some in
        let inside = c.inside in
        let test = p.test (omega arith) in
        let rises = launched.trips (turning b) x.at p.is.size some (omega arith) p.turn in
        let both = subst (λ m. (pos 0 ≤ℤ counter x.at m) × (counter x.at m ≤ℤ trip t m x.at)) (sym e) (tested (counter x.at (turning b)) (trip t (turning b) x.at) rises test) in
        (both.0, subst (λ (z : ℤ). counter x.at k ≤ℤ z) (trip-is t k x.at) both.1)

    at : (w : Bool) → nat_lt k (turning b) ≡ w → Within (if w then shifted (negsuc 0) (trip_form t k) else trip_form t k)
    at true e =
        let both = p.turn.inner k from (ltb-true k (turning b) e) in
        let e = trip-is t k x.at in (both.0, rw (value-shifted (negsuc 0) (trip_form t k) x.at, ← e) (omega (arith, ints, both.1)))
    at false e = let most = c.most in let l = ltb-false k (turning b) e in last (omega arith)

-- ---- what a system says, part by part

-- a side of the joint variables is the instance's counters
abbrev pub Sides : Joint → (Affine → Term) → List ℤ → Type 0
Sides j side at = (f : Affine) → value j (side f) ≡ value_at f at

pub first-holds : (D : ℕ) (t : Table) (chunk : Chunk) (x : Instance) (L : ℤ) (j : Joint) (side : Affine → Term) → IsTable D t → Predicted t chunk x → chunk.turns ≤ℤ L → j.turn ≡ chunk.first → Sides j side x.at
    → AllByRecursion (Holds j) (first_counter t L side)
first-holds D t chunk x L j side is p short turn sides =
    let c = counts-of D t chunk x is p in
    let some = c.some in
    let least = c.least in
    let inside = c.inside in
    let e = sides (counter_form (depth t) 0) ∙ value-counter_form (depth t) 0 x.at (omega arith) in
    let from = p.turn.from in
    let below = p.turn.below in
    (rw e (omega (arith, ints)), (rw e (omega (arith, ints)), tt))

pub inner-holds : (D : ℕ) (t : Table) (chunk : Chunk) (x : Instance) (j : Joint) (side : Affine → Term) → IsTable D t → TripsHold t chunk → Predicted t chunk x → Sides j side x.at
    → AllByRecursion (Holds j) (inner_counters t (block_of t x) side)
inner-holds D t chunk x j side is launched p sides = all-range (Holds j) (inner_counter t (block_of t x) side) 1 (counters t (block_of t x) - 1) each
  where
    each : (k : ℕ) → 1 ≤ k → k < 1 + (counters t (block_of t x) - 1) → AllByRecursion (Holds j) (inner_counter t (block_of t x) side k)
    each k from to =
        let c = counts-of D t chunk x is p in
        let inside = c.inside in
        let both = inner-within D t chunk x is launched p k from (omega arith) in
        let e = sides (counter_form (depth t) k) ∙ value-counter_form (depth t) k x.at (omega arith) in
        let f = sides (greatest t (block_of t x) k) in
        (rw e both.0, (rw (e, f) both.1, tt))

about : (n : ℕ) (line : Option Affine) (low high : ℤ) (at : List ℤ) (address : ℤ) → LiesAbout line low high at address
    → (value_at (shifted low (form_or_zero n line)) at ≤ℤ address) × (address ≤ℤ value_at (shifted high (form_or_zero n line)) at)
about n None low high at address h = absurd h
about n (Some form) low high at address h = (rw (value-shifted low form at) h.0, rw (value-shifted high form at) h.1)

pub meeting-holds : (n : ℕ) (a b : Access) (j : Joint) (at over : List ℤ) (address : ℤ) → Sides j AtX at → Sides j AtY over → Expects a at address → Expects b over address → AllByRecursion (Holds j) (meeting n a b)
meeting-holds n a b j at over address on-x on-y first second =
    let p = about n a.line a.low a.high at address first in
    let q = about n b.line b.low b.high over address second in
    (rw (on-x (shifted a.low (form_or_zero n a.line)), on-y (shifted b.high (form_or_zero n b.line))) (omega (arith, ints, p.0, q.1)), (rw (on-x (shifted a.high (form_or_zero n a.line)), on-y (shifted b.low (form_or_zero n b.line))) (omega (arith, ints, p.1, q.0)), tt))

-- place k, in the forms of both blocks
abbrev pub PlacesAre : Table → Block → List ℤ → (ℕ → ℤ) → Type 0
PlacesAre t b at p = (k : ℕ) → k < depth t → p k ≡ value_at (place_form t b k) at

pub equal-holds : (t : Table) (a b : Block) (j : Joint) (at over : List ℤ) (p q : ℕ → ℤ) (c : ℕ) → Sides j AtX at → Sides j AtY over → PlacesAre t a at p → PlacesAre t b over q
    → c ≤ depth t → ((k : ℕ) → k < c → p k ≡ q k) → AllByRecursion (Holds j) (equal_places t a b c)
equal-holds t a b j at over p q c on-x on-y is-p is-q inside same = all-range (Holds j) (equal_place t a b) 0 c each
  where
    each : (k : ℕ) → 0 ≤ k → k < 0 + c → AllByRecursion (Holds j) (equal_place t a b k)
    each k from to =
        let e : value j (AtX (place_form t a k)) ≡ p k = on-x (place_form t a k) ∙ sym (is-p k (omega arith)) in
        let f : value j (AtY (place_form t b k)) ≡ q k = on-y (place_form t b k) ∙ sym (is-q k (omega arith)) in
        let g = same k (omega arith) in
        (rw (e, f) (omega (arith, ints)), (rw (e, f) (omega (arith, ints)), tt))

pub rising-holds : (t : Table) (a b : Block) (j : Joint) (at over : List ℤ) (p q : ℕ → ℤ) (c : ℕ) → Sides j AtX at → Sides j AtY over → PlacesAre t a at p → PlacesAre t b over q
    → (c < depth t → p c <ℤ q c) → AllByRecursion (Holds j) (rising_place t a b c)
rising-holds t a b j at over p q c on-x on-y is-p is-q less = by (nat_lt c (depth t)) refl
  where
    Holding : List AtMost → Type 0
    Holding cs = AllByRecursion (Holds j) cs

    by : (w : Bool) → nat_lt c (depth t) ≡ w → Holding (if w then record { left = AtX (shifted (pos 1) (place_form t a c)); right = AtY (place_form t b c) } ∷ [] else [])
    by true g =
        let inside = ltb-true c (depth t) g in
        let e : value j (AtX (shifted (pos 1) (place_form t a c))) ≡ p c +ℤ pos 1 = on-x (shifted (pos 1) (place_form t a c)) ∙ value-shifted (pos 1) (place_form t a c) at ∙ ap (λ (z : ℤ). z +ℤ pos 1) (sym (is-p c inside)) in
        let f : value j (AtY (place_form t b c)) ≡ q c = on-y (place_form t b c) ∙ sym (is-q c inside) in
        (rw (e, f) (omega (arith, ints, less inside)), tt)
    by false g = tt
