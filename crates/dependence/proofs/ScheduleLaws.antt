-- Where no point meets a system with a violated row, each conflicting pair keeps its order.
use Rattle.std.proofs.Common.{All, ◌≡◌, refl, sym, ap, ap₂, ◌∙◌, subst, ℕ, suc, ◌<◌, ◌≤◌, ◌-◌, min, ◌⊎◌, inl, inr, ⊎_elim, ℤ, pos, ◌+ℤ◌, ◌≤ℤ◌, ◌<ℤ◌, Bool, true, false, not, ◌&&◌, nat_lt, nat_le, lt-ltb, le-leb, List, [], ◌∷◌, ◌++◌, map, take, length, get_or, get_or-take, length-take, take-append-drop, arith, Less, int_cmp}
use Rattle.std.specs.Prelude.{if◌then◌else◌}
use Rattle.std.specs.Int.{int_div_euclid}
use Rattle.std.specs.List.{AllByRecursion, range_with_len, flat_map}
use Rattle.std.specs.Cmp.Lexicographic.{slice_cmp}
use Rattle.std.proofs.lemmas.Int.{ints, by_lt_z}
use Rattle.std.proofs.lemmas.List.{append_assoc, length-map, get_or-map, map-append}
use Rattle.affine.specs.declared.row.Row.{Row}
use Rattle.affine.specs.Sums.{dot}
use Rattle.affine.specs.Forms.{Affine, value_at}
use Rattle.affine.specs.Rows.{Meets}
use Rattle.affine.specs.Matrices.{product}
use Rattle.plain_lemmas.proofs.MembershipLaws.{all-from, All-has, All-from, has-cases, has-map, map-has, has-flat_map}
use Rattle.plain_lemmas.specs.Lists.{Has}
use Rattle.dependence.proofs.KeyLaws.{BandRow, GoesOn, waves, first_key, second_key, NeverFalls, leading-law, band-law, one-tile-law, leading-cases, floor-rises}
use Rattle.domain.specs.declared.chunk.Chunk.{Chunk}
use Rattle.domain.specs.Tables.{Table, Block, depth, IsTable}
use Rattle.domain.specs.Instances.{Instance, block_of, Predicted, place as padded_place, padded}
use Rattle.domain.specs.Footprints.{Conflict}
use Rattle.dependence.specs.Comparisons.{Joint, point, AtX, AtY, value, AtMost, Holds}
use Rattle.dependence.specs.Systems.{System, comparisons, system, systems, rows_for, shifted, place_form}
use Rattle.transform.specs.Schedules.{Line, Schedule, IsSchedule, line_at, matrix, leading, band, along, tile_along, lead, wave, wave_of, tile, phase, place}
use Rattle.dependence.specs.Legality.{row_form, unmoved, falling, climbing, violated, Violated, below, above, trial, violations_of, violations, Trial, trials_of, trials, tried, Unmet}
use Rattle.dependence.specs.Laws.{beside, IsPair, schedule_key, ComesFirst, OrderKept, TilesApart}
use Rattle.dependence.proofs.LaunchLaws.{TripsHold, trips-hold}
use Rattle.dependence.proofs.SumLaws.{value-combined, value-shifted}
use Rattle.dependence.proofs.RangeLaws.{all-append, all-flat-map, has-take, has-drop, map-range, map-same, has-range}
use Rattle.dependence.proofs.LexLaws.{Rises, lex-cases, lex-three}
use Rattle.dependence.proofs.ComparisonLaws.{place-is as padded_place_is}
use Rattle.dependence.proofs.SystemLaws.{ref-of, on_x, on_y, length-padded, Found, found, rows-met}

-- ---- a row of the matrix at the padded point

pub row-value : (D : ℕ) (t : Table) (chunk : Chunk) (x : Instance) → IsTable D t → TripsHold t chunk → Predicted t chunk x → (l : Line) → value_at (row_form t (block_of t x) l) x.at ≡ along (padded t x) l
unfolding padded
row-value D t chunk x is launched p l =
    value-combined (depth t) l.row (map (place_form t (block_of t x)) (range_with_len 0 (depth t))) x.at
    ∙ ap (dot l.row)
    (map-range (λ (f : Affine). value_at f x.at) (λ (z : ℤ). z) (place_form t (block_of t x)) (padded_place t (block_of t x) x.at) 0 (depth t) (λ k a b. sym (padded_place_is D t chunk x is launched p k (omega arith)))
    ∙ map-same (map (padded_place t (block_of t x) x.at) (range_with_len 0 (depth t))))

-- ---- no violation can be met

-- ---- the key of the schedule, as the laws on keys have it

abbrev pair-of : List ℤ → List ℤ → Line → BandRow
pair-of p q l = record { first = along p l; second = along q l; first-tile = tile_along p l; second-tile = tile_along q l; wave = not l.parallel }

map-pair : (f : BandRow → ℤ) (g : Line → ℤ) (p q : List ℤ) (ls : List Line) → ((l : Line) → f (pair-of p q l) ≡ g l) → map f (map (pair-of p q) ls) ≡ map g ls
map-pair f g p q [] h = refl
map-pair f g p q (l ∷ ls) h = ap₂ (λ (z : ℤ) (zs : List ℤ). z ∷ zs) (h l) (map-pair f g p q ls h)

waves-are : (f : BandRow → ℤ) (p q u : List ℤ) (ls : List Line) → ((l : Line) → f (pair-of p q l) ≡ tile_along u l) → waves f (map (pair-of p q) ls) ≡ wave_of u ls
waves-are f p q u [] h = refl
waves-are f p q u (l ∷ ls) h = ap₂ (λ (z w : ℤ). z +ℤ w) (turned l.parallel (f (pair-of p q l)) (tile_along u l) (h l)) (waves-are f p q u ls h)
  where
    turned : (b : Bool) (z w : ℤ) → z ≡ w → (if not b then z else pos 0) ≡ (if b then pos 0 else w)
    turned true z w e = refl
    turned false z w e = e

-- the place in the rows of the band
abbrev within : Schedule → List ℤ → List ℤ
within s p = map (along p) (band s)

place-is : (s : Schedule) (p : List ℤ) → place s p ≡ lead s p ++ within s p
place-is s p = ap (map (along p)) (sym (take-append-drop s.seq s.lines)) ∙ map-append (along p) (leading s) (band s)

key-is : (s : Schedule) (p : List ℤ) (m : ℤ) → schedule_key s p m ≡ lead s p ++ (wave s p ∷ (tile s p ++ (lead s p ++ (within s p ++ m ∷ []))))
key-is s p m =
    append_assoc (lead s p) (wave s p ∷ []) (tile s p ++ (place s p ++ m ∷ []))
    ∙ ap (λ (zs : List ℤ). lead s p ++ (wave s p ∷ (tile s p ++ zs))) (ap (λ (zs : List ℤ). zs ++ m ∷ []) (place-is s p) ∙ append_assoc (lead s p) (within s p) (m ∷ []))

key-first : (s : Schedule) (p q : List ℤ) (m : ℤ) → schedule_key s p m ≡ first_key (lead s p) (map (pair-of p q) (band s)) m
key-first s p q m =
    key-is s p m
    ∙ rw (waves-are (λ r. r.first-tile) p q p (band s) (λ l. refl), map-pair (λ r. r.first-tile) (tile_along p) p q (band s) (λ l. refl), map-pair (λ r. r.first) (along p) p q (band s) (λ l. refl)) refl

key-second : (s : Schedule) (p q : List ℤ) (n : ℤ) → schedule_key s q n ≡ second_key (lead s q) (map (pair-of p q) (band s)) n
key-second s p q n =
    key-is s q n
    ∙ rw (waves-are (λ r. r.second-tile) p q q (band s) (λ l. refl), map-pair (λ r. r.second-tile) (tile_along q) p q (band s) (λ l. refl), map-pair (λ r. r.second) (along q) p q (band s) (λ l. refl)) refl

-- ---- equal rows are equal points

rows-along : (ls : List Line) (p : List ℤ) → product (map (λ l. l.row) ls) p ≡ map (along p) ls
rows-along [] p = refl
rows-along (l ∷ ls) p = ap (λ (zs : List ℤ). along p l ∷ zs) (rows-along ls p)

product-is : (s : Schedule) (p : List ℤ) → product (matrix s) p ≡ lead s p ++ within s p
product-is s p = rows-along s.lines p ∙ place-is s p

same-points : (n : ℕ) (s : Schedule) (p q : List ℤ) → IsSchedule n s → length p ≡ n → length q ≡ n → lead s p ≡ lead s q → within s p ≡ within s q → p ≡ q
same-points n s p q sched long wide e f = sched.one p q long wide (product-is s p ∙ ap₂ (λ (us vs : List ℤ). us ++ vs) e f ∙ sym (product-is s q))

-- ---- a leading row at a point

lead_at : (s : Schedule) (p : List ℤ) (k : ℕ) → k < s.seq → k < length s.lines → get_or (lead s p) k (pos 0) ≡ along p (line_at s k)
lead_at s p k a b =
    let d : Line = record { row = []; size = 0; parallel = false } in
    let e = length-take s.seq s.lines in
    get_or-map (along p) (leading s) k d (pos 0) (omega arith) ∙ ap (along p) (get_or-take s.seq s.lines k d a)

module _ (D : ℕ) (t : Table) (L words : ℤ) (s : Schedule) (chunk : Chunk) (x y : Instance) (is : IsTable D t) (unmet : Unmet t s L) (pair : IsPair t L words chunk x y) (f : Found t L chunk x y) (inside : f.case ≤ depth t) where
  launched : TripsHold t chunk
  launched = trips-hold D t words chunk pair.launch.instances is pair.launch.first pair.launch.launched

  abbrev X : Block
  X = block_of t x

  abbrev Y : Block
  Y = block_of t y

  abbrev j : Joint
  j = beside t chunk x y

  abbrev cs : List AtMost
  cs = comparisons t L (ref-of x f.first) (ref-of y f.second) f.case

  abbrev sys : System
  sys = system t L (ref-of x f.first) (ref-of y f.second) f.case

  has-trial : (v : Violated) → Has (violations t s) v → Has (trials t s L) (trial sys v)
  unfolding trials
  has-trial v h = has-flat_map (trials_of t s) (systems t L) sys _ f.has (by (nat_le f.case (depth t)) (le-leb f.case (depth t) inside))
    where
      by : (w : Bool) → w ≡ true → Has (if w then map (trial sys) (violations t s) else []) (trial sys v)
      by true e = has-map (trial sys) (violations t s) v h
      by false e = cc

  has-below : (row : ℕ) → 1 ≤ row → row ≤ depth t → Has (violations t s) (below row)
  has-below row from to = has-flat_map (violations_of s) (range_with_len 1 (depth t)) row _ (has-range 1 (depth t) row from (omega arith)) (inl refl)

  has-above : (row : ℕ) → s.seq < row → row ≤ depth t → (line_at s (row - 1)).parallel ≡ true → Has (violations t s) (above row)
  has-above row from to parallel =
      has-flat_map (violations_of s) (range_with_len 1 (depth t)) row _ (has-range 1 (depth t) row (omega arith) (omega arith)) (inr (by (nat_lt s.seq row && (line_at s (row - 1)).parallel) (rw (lt-ltb s.seq row from, parallel) refl)))
    where
      by : (w : Bool) → w ≡ true → Has (if w then above row ∷ [] else []) (above row)
      by true e = inl refl
      by false e = cc

  refuted : (v : Violated) → Has (violations t s) v → AllByRecursion (Holds j) (violated t s X Y v.row v.above) → ⊥
  refuted v h holds = All-has (λ (w : Trial). (p : List ℤ) → All (Meets p) (tried t s w) → ⊥) (trials t s L) (trial sys v) unmet (has-trial v h) (point j) (All-from (Meets (point j)) (tried t s (trial sys v)) met)
    where
      added : List Row
      added = rows_for t (ref-of x f.first) (ref-of y f.second) (violated t s (block_of t x) (block_of t y) v.row v.above)

      met : (r : Row) → Has (tried t s (trial sys v)) r → Meets (point (beside t chunk x y)) r
      met r k =
          ⊎_elim (rows-met D t chunk x y f.first f.second _ is pair.first pair.second f.holds r) (rows-met D t chunk x y f.first f.second _ is pair.first pair.second holds r) (has-cases sys.rows added r k)

  abbrev px : List ℤ
  px = padded t x

  abbrev py : List ℤ
  py = padded t y

  at-x : (l : Line) → value j (AtX (row_form t X l)) ≡ along px l
  at-x l = on_x t chunk x y pair.first (row_form t X l) ∙ row-value D t chunk x is launched pair.first l

  at-y : (l : Line) → value j (AtY (row_form t Y l)) ≡ along py l
  at-y l = on_y t chunk x y pair.second (row_form t Y l) ∙ row-value D t chunk y is launched pair.second l

  more-x : (l : Line) → value j (AtX (shifted (pos 1) (row_form t X l))) ≡ along px l +ℤ pos 1
  more-x l = on_x t chunk x y pair.first (shifted (pos 1) (row_form t X l)) ∙ value-shifted (pos 1) (row_form t X l) x.at ∙ ap (λ (z : ℤ). z +ℤ pos 1) (row-value D t chunk x is launched pair.first l)

  more-y : (l : Line) → value j (AtY (shifted (pos 1) (row_form t Y l))) ≡ along py l +ℤ pos 1
  more-y l = on_y t chunk x y pair.second (shifted (pos 1) (row_form t Y l)) ∙ value-shifted (pos 1) (row_form t Y l) y.at ∙ ap (λ (z : ℤ). z +ℤ pos 1) (row-value D t chunk y is launched pair.second l)

  -- the leading rows before a row are equal at both
  abbrev pub SameBefore : ℕ → Type 0
  SameBefore row = (l : Line) → Has (take (min (row - 1) s.seq) s.lines) l → along px l ≡ along py l

  one-unmoved : (l : Line) → along px l ≡ along py l → AllByRecursion (Holds j) (unmoved t X Y l)
  one-unmoved l e =
      let a = at-x l in
      let b = at-y l in
      (rw (a, b) (omega (arith, ints)), (rw (a, b) (omega (arith, ints)), tt))

  all-unmoved : (row : ℕ) → SameBefore row → AllByRecursion (Holds j) (flat_map (unmoved t X Y) (take (min (row - 1) s.seq) s.lines))
  all-unmoved row same =
      all-flat-map (Holds j) (unmoved t X Y) (take (min (row - 1) s.seq) s.lines)
      (all-from (λ (l : Line). AllByRecursion (Holds j) (unmoved t X Y l)) (take (min (row - 1) s.seq) s.lines) (λ l h. one-unmoved l (same l h)))

  pub never_falls : (row : ℕ) → 1 ≤ row → row ≤ depth t → SameBefore row → along px (line_at s (row - 1)) ≤ℤ along py (line_at s (row - 1))
  never_falls row from to same = by_lt_z (along py l) (along px l) (λ lower. absurd (refuted (below row) (has-below row from to) (violates lower))) (λ h. h)
    where
      l : Line
      l = line_at s (row - 1)

      violates : along py l <ℤ along px l → AllByRecursion (Holds j) (violated t s X Y row false)
      violates lower =
          all-append (Holds j) (flat_map (unmoved t X Y) (take (min (row - 1) s.seq) s.lines)) (falling t X Y l ∷ []) (all-unmoved row same)
          (let a = at-x l in let b = more-y l in (rw (a, b) (omega (arith, ints)), tt))

  pub never-climbs : (row : ℕ) → s.seq < row → row ≤ depth t → (line_at s (row - 1)).parallel ≡ true → SameBefore row → along py (line_at s (row - 1)) ≤ℤ along px (line_at s (row - 1))
  never-climbs row from to parallel same = by_lt_z (along px l) (along py l) (λ lower. absurd (refuted (above row) (has-above row from to parallel) (violates lower))) (λ h. h)
    where
      l : Line
      l = line_at s (row - 1)

      violates : along px l <ℤ along py l → AllByRecursion (Holds j) (violated t s X Y row true)
      violates lower =
          all-append (Holds j) (flat_map (unmoved t X Y) (take (min (row - 1) s.seq) s.lines)) (climbing t X Y l ∷ []) (all-unmoved row same)
          (let a = more-x l in let b = at-y l in (rw (a, b) (omega (arith, ints)), tt))

  before : (row : ℕ) → ((m : ℕ) → m < row - 1 → m < s.seq → m < length s.lines → along px (line_at s m) ≡ along py (line_at s m)) → SameBefore row
  before row same l h =
      let (m, a, b, e) = has-take s.lines (min (row - 1) s.seq) l h in
      subst (λ (v : Line). along px v ≡ along py v) (e (record { row = []; size = 0; parallel = false })) (same m (omega arith) (omega arith) b)

  module _ (sched : IsSchedule (depth t) s) where
    falls-nowhere : NeverFalls (lead s px) (lead s py)
    falls-nowhere k l same =
        rw (lead_at s px k a b, lead_at s py k a b)
        (subst (λ m. along px (line_at s m) ≤ℤ along py (line_at s m)) back (never_falls (suc k) (omega arith) (omega (arith, b, sched.long)) (before (suc k) (λ m c. earlier m (omega arith)))))
      where
        a : k < s.seq
        a = omega (arith, l, length-map (leading s) (along px), length-take s.seq s.lines)

        b : k < length s.lines
        b = omega (arith, l, length-map (leading s) (along px), length-take s.seq s.lines)

        back : suc k - 1 ≡ k
        back = omega arith

        earlier : (m : ℕ) → m < k → m < s.seq → m < length s.lines → along px (line_at s m) ≡ along py (line_at s m)
        earlier m c d e =
            sym (lead_at s px m d e) ∙ sym (get_or-take k (lead s px) m (pos 0) c) ∙ ap (λ (zs : List ℤ). get_or zs m (pos 0)) same ∙ get_or-take k (lead s py) m (pos 0) c ∙ lead_at s py m d e

    -- where the leading rows are equal, each row of the band goes on
    module _ (e : lead s px ≡ lead s py) where
      band-before : (row : ℕ) → SameBefore row
      band-before row = before row (λ m c d f. sym (lead_at s px m d f) ∙ ap (λ (zs : List ℤ). get_or zs m (pos 0)) e ∙ lead_at s py m d f)

      on-at : (k : ℕ) → s.seq ≤ k → k < length s.lines → GoesOn (pair-of px py (line_at s k))
      on-at k from to = record {
        rises = rise;
        tiles = floor-rises (along px l) (along py l) l.size (sched.sizes k _ to) rise;
        one = λ same. ap (λ (z : ℤ). int_div_euclid z (pos l.size)) same;
        parallel = λ off. level (both l.parallel refl off);
      }
        where
          l : Line
          l = line_at s k

          back : suc k - 1 ≡ k
          back = omega arith

          rise : along px (line_at s k) ≤ℤ along py (line_at s k)
          rise = subst (λ m. along px (line_at s m) ≤ℤ along py (line_at s m)) back (never_falls (suc k) (omega arith) (omega (arith, sched.long)) (band-before (suc k)))

          both : (b : Bool) → l.parallel ≡ b → not b ≡ false → l.parallel ≡ true
          both true p off = p
          both false p off = cc

          level : (line_at s k).parallel ≡ true → along px (line_at s k) ≡ along py (line_at s k)
          level p =
              let fall = subst (λ m. (line_at s m).parallel ≡ true → along py (line_at s m) ≤ℤ along px (line_at s m)) back (λ q. never-climbs (suc k) (omega arith) (omega (arith, sched.long)) q (band-before (suc k))) in
              omega (arith, ints, rise, fall p)

      pub goes_on : AllByRecursion GoesOn (map (pair-of px py) (band s))
      goes_on = all-from GoesOn (map (pair-of px py) (band s)) (λ r h. each r (map-has (pair-of px py) (band s) r h))
        where
          each : (r : BandRow) → (l : Line) × Has (band s) l × (r ≡ pair-of px py l) → GoesOn r
          each r (l, h, is-pair) =
              let (k, a, b, at) = has-drop s.lines s.seq l h in
              subst GoesOn (sym is-pair) (subst (λ (v : Line). GoesOn (pair-of px py v)) (at (record { row = []; size = 0; parallel = false })) (on-at k a b))

-- ---- the laws

-- equal leading rows, each row of the band going on: the key rises, where the rank does for equal points
key-rises : (s : Schedule) (p q : List ℤ) (m n : ℤ) → lead s p ≡ lead s q → AllByRecursion GoesOn (map (pair-of p q) (band s)) → (within s p ≡ within s q → m <ℤ n)
    → slice_cmp int_cmp (schedule_key s p m) (schedule_key s q n) ≡ Less
key-rises s p q m n e all rank =
    ap₂ (λ (us vs : List ℤ). slice_cmp int_cmp us vs) (key-first s p q m) (key-second s p q n ∙ ap (λ (us : List ℤ). second_key us (map (pair-of p q) (band s)) n) (sym e))
    ∙ band-law (lead s p) (map (pair-of p q) (band s)) m n all (λ same. rank (sym (map-pair (λ r. r.first) (along p) p q (band s) (λ l. refl)) ∙ same ∙ map-pair (λ r. r.second) (along q) p q (band s) (λ l. refl)))

-- a point beside itself goes on
stays : (s : Schedule) (p : List ℤ) → AllByRecursion GoesOn (map (pair-of p p) (band s))
stays s p = all-from GoesOn (map (pair-of p p) (band s)) (λ r h. each r (map-has (pair-of p p) (band s) r h))
  where
    each : (r : BandRow) → (l : Line) × Has (band s) l × (r ≡ pair-of p p l) → GoesOn r
    each r (l, h, e) = subst GoesOn (sym e) (record { rises = omega (arith, ints); tiles = omega (arith, ints); one = λ same. refl; parallel = λ off. refl })

rank-rises : (p q : List ℤ) (m n : ℤ) → length p ≡ length q → slice_cmp int_cmp (p ++ m ∷ []) (q ++ n ∷ []) ≡ Less → p ≡ q → m <ℤ n
rank-rises p q m n long less same = ⊎_elim (λ r. absurd (falls r.0 r.1)) (λ both. both.1) (lex-cases p q m n long less)
  where
    falls : (c : ℕ) → Rises p q c → ⊥
    falls c r = let l = r.less in let e = ap (λ (zs : List ℤ). get_or zs c (pos 0)) same in omega (arith, ints, l, e)

module _ (D : ℕ) (t : Table) (L words : ℤ) (s : Schedule) (chunk : Chunk) (is : IsTable D t) (given : IsSchedule D s) (unmet : Unmet t s L) where
  sched : IsSchedule (depth t) s
  sched = subst (λ (n : ℕ). IsSchedule n s) (sym is.deep) given

  pub pair-rises : (x y : Instance) → IsPair t L words chunk x y → ComesFirst t s x y
  pair-rises x y pair = by (found D t L words chunk x y is pair).which
    where
      one-size : length (lead s (padded t x)) ≡ length (lead s (padded t y))
      one-size = length-map (leading s) (along (padded t x)) ∙ sym (length-map (leading s) (along (padded t y)))

      rank : lead s (padded t x) ≡ lead s (padded t y) → map (along (padded t x)) (band s) ≡ map (along (padded t y)) (band s) → pos x.block <ℤ pos y.block
      rank e same =
          rank-rises (padded t x) (padded t y) (pos x.block) (pos y.block) (length-padded t x ∙ sym (length-padded t y)) pair.order
          (same-points (depth t) s (padded t x) (padded t y) sched (length-padded t x) (length-padded t y) e same)

      by : ((found D t L words chunk x y is pair).case ≤ depth t) ⊎ ((padded t x ≡ padded t y) × (x.block < y.block)) → ComesFirst t s x y
      by (inl inside) =
          ⊎_elim
          (λ less.
          ap₂ (λ (us vs : List ℤ). slice_cmp int_cmp us vs) (key-first s (padded t x) (padded t y) (pos x.block)) (key-second s (padded t x) (padded t y) (pos y.block))
          ∙ leading-law (lead s (padded t x)) (lead s (padded t y)) (map (pair-of (padded t x) (padded t y)) (band s)) (pos x.block) (pos y.block) one-size less)
          (λ e. key-rises s (padded t x) (padded t y) (pos x.block) (pos y.block) e (goes_on D t L words s chunk x y is unmet pair (found D t L words chunk x y is pair) inside sched e) (rank e))
          (leading-cases (lead s (padded t x)) (lead s (padded t y)) one-size (falls-nowhere D t L words s chunk x y is unmet pair (found D t L words chunk x y is pair) inside sched))
      by (inr (same, less)) =
          subst (λ (q : List ℤ). slice_cmp int_cmp (schedule_key s (padded t x) (pos x.block)) (schedule_key s q (pos y.block)) ≡ Less) same
          (key-rises s (padded t x) (padded t x) (pos x.block) (pos y.block) refl (stays s (padded t x)) (λ w. omega (arith, ints)))

  -- a conflicting pair in one phase lies in one tile
  one_tile : (x y : Instance) → IsPair t L words chunk x y → lead s (padded t x) ≡ lead s (padded t y) → wave s (padded t x) ≡ wave s (padded t y) → tile s (padded t x) ≡ tile s (padded t y)
  one_tile x y pair e w = by (found D t L words chunk x y is pair).which
    where
      by : ((found D t L words chunk x y is pair).case ≤ depth t) ⊎ ((padded t x ≡ padded t y) × (x.block < y.block)) → tile s (padded t x) ≡ tile s (padded t y)
      by (inl inside) =
          sym (map-pair (λ r. r.first-tile) (tile_along (padded t x)) (padded t x) (padded t y) (band s) (λ l. refl))
          ∙ one-tile-law (map (pair-of (padded t x) (padded t y)) (band s)) (goes_on D t L words s chunk x y is unmet pair (found D t L words chunk x y is pair) inside sched e)
          (waves-are (λ r. r.first-tile) (padded t x) (padded t y) (padded t x) (band s) (λ l. refl) ∙ w ∙ sym (waves-are (λ r. r.second-tile) (padded t x) (padded t y) (padded t y) (band s) (λ l. refl)))
          ∙ map-pair (λ r. r.second-tile) (tile_along (padded t y)) (padded t x) (padded t y) (band s) (λ l. refl)
      by (inr (same, less)) = ap (tile s) same

-- equal phase keys have equal leading numbers and equal waves
last-apart : (xs ys : List ℤ) (a b : ℤ) → length xs ≡ length ys → xs ++ a ∷ [] ≡ ys ++ b ∷ [] → (xs ≡ ys) × (a ≡ b)
last-apart [] [] a b size e = (refl, cc)
last-apart [] (y ∷ ys) a b size e = absurd (omega arith)
last-apart (x ∷ xs) [] a b size e = absurd (omega arith)
last-apart (x ∷ xs) (y ∷ ys) a b size e =
    let first : x ≡ y = cc in
    let rest : xs ++ a ∷ [] ≡ ys ++ b ∷ [] = cc in
    let both = last-apart xs ys a b (omega arith) rest in
    (ap₂ (λ (z : ℤ) (zs : List ℤ). z ∷ zs) first both.0, both.1)

phases-apart : (s : Schedule) (p q : List ℤ) → phase s p ≡ phase s q → (lead s p ≡ lead s q) × (wave s p ≡ wave s q)
phases-apart s p q e = last-apart (lead s p) (lead s q) (wave s p) (wave s q) (length-map (leading s) (along p) ∙ sym (length-map (leading s) (along q))) e

pub order_kept : OrderKept
order_kept D t L words s chunk x y is sched unmet pair = pair-rises D t L words s chunk is sched unmet x y pair

pub turned : (t : Table) (words : ℤ) (x y : Instance) → Conflict t words x y → Conflict t words y x
turned t words x y (address, inl both) = (address, inr both)
turned t words x y (address, inr both) = (address, inl both)

pub tiles_apart : TilesApart
tiles_apart D t L words s chunk x y is sched unmet launch p q other conflict =
    ⊎_elim
    (λ less. other.tile (one_tile D t L words s chunk is sched unmet x y (record { launch = launch; first = p; second = q; conflict = conflict; order = less }) parts.0 parts.1))
    (λ rest. ⊎_elim
    (λ same. other.tile (ap (tile s) same))
    (λ less. other.tile (sym (one_tile D t L words s chunk is sched unmet y x (record { launch = launch; first = q; second = p; conflict = turned t words x y conflict; order = less }) (sym parts.0) (sym parts.1))))
    rest)
    (lex-three (padded t x) (padded t y) (pos x.block ∷ []) (pos y.block ∷ []) (length-padded t x ∙ sym (length-padded t y)))
  where
    parts : (lead s (padded t x) ≡ lead s (padded t y)) × (wave s (padded t x) ≡ wave s (padded t y))
    parts = phases-apart s (padded t x) (padded t y) other.phase
