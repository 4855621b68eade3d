-- The cells of a chunk are those of the places of its blocks, one for each tile of the last row that a stretch meets.
use Rattle.std.proofs.Common.{◌≡◌, refl, sym, ap, ap₂, ◌∙◌, subst, ℕ, zero, suc, ◌<◌, ◌≤◌, ◌+◌, ◌-◌, ◌*◌, ◌^◌, ℤ, pos, neg_ℤ, ◌+ℤ◌, ◌*ℤ◌, ◌≤ℤ◌, ◌<ℤ◌, unsigned_abs, Bool, true, false, nat_lt, List, [], ◌∷◌, ◌++◌, map, length, length-append, length-drop, get_or, replicate, drop, inl, inr, ⊎_elim, arith, FitsSigned, Ordering, Less, Equal, Greater, int_cmp}
use Rattle.std.specs.Prelude.{◌↔◌, if◌then◌else◌}
use Rattle.std.specs.Int.{int_div_euclid, w64}
use Rattle.std.specs.List.{AllByRecursion}
use Rattle.std.specs.List.Sorted.{IsStrictlySortedBy}
use Rattle.std.specs.Cmp.{IsEquivalence, IsTotalOrder}
use Rattle.std.specs.Cmp.Lexicographic.{slice_cmp}
use Rattle.std.specs.Ordering.{eq_by_cmp, is_eq, ordering_then}
use Rattle.std.proofs.lemmas.Cmp.{eq_by_cmp_equiv}
use Rattle.std.proofs.lemmas.Int.{fits_signed_from_abs, ints}
use Rattle.std.proofs.lemmas.Bool.{cases_lt}
use Rattle.std.proofs.lemmas.Bool.Decides.{nat_tests}
use Rattle.std.proofs.lemmas.List.{get_or-replicate, length-replicate, length-take-le}
use Rattle.std.proofs.Math.ListN.{length-map}
use Rattle.plain_lemmas.proofs.IntegerLaws.{*ℤ-+ℤ, *ℤ-≤ℤ, unsigned_abs-add}
use Rattle.plain_lemmas.proofs.OrderLaws.{cases-int_cmp, slice_cmp-exact}
use Rattle.affine.proofs.FloorLaws.{abs-floor}
use Rattle.affine.proofs.PlaceLaws.{quotient_is_interval}
use Rattle.orders.specs.Orders.{Ordered}
use Rattle.plain_lemmas.specs.Lists.{Has}
use Rattle.plain_lemmas.proofs.MembershipLaws.{has-cases, has-left, has-right}
use Rattle.domain.specs.Instances.{Instance, Predicted, counter, padded}
use Rattle.transform.specs.Schedules.{IsSchedule, Line, Schedule, along, band, leading, line_at, place, tile_along, wave, wave_of, wide_lead, wide_tile}
use Rattle.transform.proofs.LineLaws.{get_or-place}
use Rattle.level_walk.specs.Lattices.{HIGHEST, LOWEST, in_box}
use Rattle.level_walk.specs.Spaces.{IsWithin}
use Rattle.level_walk.specs.Stretches.{AreRunsOf, IsRunOf, point_at}
use Rattle.level_walk.specs.Walks.{IsBlock, IsBox, points_in}
use Rattle.level_walk.specs.declared.runs.Run.{Run as Stretch}
use Rattle.level_walk.specs.declared.scans.BlockScan.{BlockScan}
use Rattle.skeletons.specs.CellLists.{Gains, IsCellAmong, IsCellOf, IsMetBelow, IsNumberIn, cell_at, last_size}
use Rattle.skeletons.specs.Cells.{Cell, Extent, cell_of}
use Rattle.skeletons.specs.Frames.{Finds, IsFrame, IsPlaceOf}
use Rattle.skeletons.specs.RunLists.{IsStretch}
use Rattle.skeletons.specs.Scans.{IsNear}
use Rattle.skeletons.proofs.BlockLaws.{same_numbers}
use Rattle.skeletons.proofs.BoxLaws.{in_box-from, lead-at, length-place, tile-at}
use Rattle.skeletons.proofs.ListLaws.{near-places, point-is, points-of}
use Rattle.skeletons.proofs.RunListLaws.{near-last}

-- ---- tiles of a row

next-tile : (d q : ℤ) → d *ℤ (q +ℤ pos 1) ≡ d *ℤ q +ℤ d
next-tile d q = *ℤ-+ℤ d q (pos 1) ∙ ap (λ (x : ℤ). d *ℤ q +ℤ x) (let e : d *ℤ pos 1 ≡ d = omega (arith, ints) in e)

-- a tile that begins before a number, and isn't before its tile, is its tile
tile-before : (z t d : ℤ) → pos 0 <ℤ d → int_div_euclid z d ≤ℤ t → (d *ℤ t) <ℤ z → int_div_euclid z d ≡ t
tile-before z t d some from before = cases-int_cmp (int_div_euclid z d) t
    (λ l.
    let above = *ℤ-≤ℤ d (int_div_euclid z d +ℤ pos 1) t (omega (arith, ints, some)) (omega (arith, ints, l)) in
    let law = ((quotient_is_interval z d (int_div_euclid z d) some).0 refl).1 in
    absurd (omega (arith, ints, above, law, before)))
    (λ e. e)
    (λ l. absurd (omega (arith, ints, l, from)))

tile-below : (z t d : ℤ) → pos 0 <ℤ d → t ≤ℤ int_div_euclid z d → (d *ℤ t) ≤ℤ z
tile-below z t d some to =
    let under = *ℤ-≤ℤ d t (int_div_euclid z d) (omega (arith, ints, some)) to in
    let law = ((quotient_is_interval z d (int_div_euclid z d) some).0 refl).0 in
    omega (arith, ints, under, law)

tile-begins : (t d : ℤ) → pos 0 <ℤ d → int_div_euclid (d *ℤ t) d ≡ t
tile-begins t d some = let n = next-tile d t in (quotient_is_interval (d *ℤ t) d t some).1 (omega (arith, ints), omega (arith, ints, n, some))

pub low-in : (s : Stretch) (t d : ℤ) → pos 0 <ℤ d → s.low ≤ℤ s.high → int_div_euclid s.low d ≤ℤ t → (d *ℤ t) <ℤ s.low → IsNumberIn s d t s.low
low-in s t d some order from before = record { from = omega (arith, ints); to = order; tile = tile-before s.low t d some from before }

pub first-in : (s : Stretch) (t d : ℤ) → pos 0 <ℤ d → t ≤ℤ int_div_euclid s.high d → s.low ≤ℤ (d *ℤ t) → IsNumberIn s d t (d *ℤ t)
first-in s t d some to low = record { from = low; to = tile-below s.high t d some to; tile = tile-begins t d some }

-- the tiles of numbers in order are in order
pub tiles-rise : (y z d : ℤ) → pos 0 <ℤ d → y ≤ℤ z → int_div_euclid y d ≤ℤ int_div_euclid z d
tiles-rise y z d some h = cases-int_cmp (int_div_euclid z d) (int_div_euclid y d)
    (λ l.
    let above = *ℤ-≤ℤ d (int_div_euclid z d +ℤ pos 1) (int_div_euclid y d) (omega (arith, ints, some)) (omega (arith, ints, l)) in
    let low = ((quotient_is_interval y d (int_div_euclid y d) some).0 refl).0 in
    let high = ((quotient_is_interval z d (int_div_euclid z d) some).0 refl).1 in
    absurd (omega (arith, ints, above, low, high, h)))
    (λ e. omega (arith, ints, e))
    (λ l. omega (arith, ints, l))

pub floor-small : (z : ℤ) (size : ℕ) → 0 < size → unsigned_abs (int_div_euclid z (pos size)) ≤ unsigned_abs z
floor-small z zero h = absurd (omega arith)
floor-small z (suc n) h = abs-floor z n

-- ---- the numbers of a cell fit

pub near-fits : (z : ℤ) → IsNear z → FitsSigned w64 z
near-fits z near = let a = near.low in let b = near.high in fits_signed_from_abs w64 z (omega (arith, ints, a, b))

pub zero-fits : FitsSigned w64 (pos 0)
zero-fits = fits_signed_from_abs w64 (pos 0) (omega arith)

pub past : (xs : List ℤ) (k : ℕ) → length xs ≤ k → counter xs k ≡ pos 0
past [] k h = refl
past (x ∷ xs) zero h = absurd (omega arith)
past (x ∷ xs) (suc k) h = past xs k (omega arith)

pick-true : {X : Type 0} (b : Bool) (u v : X) → b ≡ true → (if b then u else v) ≡ u
pick-true b u v e = rw e refl

pick-false : {X : Type 0} (b : Bool) (u v : X) → b ≡ false → (if b then u else v) ≡ v
pick-false b u v e = rw e refl

below : (k n : ℕ) → k < n → nat_lt k n ≡ true
below k n h = grind (arith, nat_tests)

above : (k n : ℕ) → n ≤ k → nat_lt k n ≡ false
above k n h = grind (arith, nat_tests)

abbrev no-line : Line
no-line = record { row = []; size = 0; parallel = false }

waves-small : (p : List ℤ) (ls : List Line) → AllByRecursion (λ (l : Line). unsigned_abs (tile_along p l) ≤ 2 ^ 59) ls → unsigned_abs (wave_of p ls) ≤ length ls * 2 ^ 59
waves-small p [] all = omega arith
waves-small p (l ∷ ls) all =
    let share = part l.parallel in
    let sum = unsigned_abs-add (if l.parallel then pos 0 else tile_along p l) (wave_of p ls) in
    let rest = waves-small p ls all.1 in
    omega (arith, share, sum, rest)
  where
    part : (b : Bool) → unsigned_abs (if b then pos 0 else tile_along p l) ≤ 2 ^ 59
    part true = omega arith
    part false = all.0

all-lines : (P : Line → Type 0) (ls : List Line) → ((k : ℕ) → k < length ls → P (get_or ls k no-line)) → AllByRecursion P ls
all-lines P [] h = tt
all-lines P (l ∷ ls) h = (h 0 (omega arith), all-lines P ls (λ k i. h (suc k) (omega arith)))

all-drop : {X : Type 0} (P : X → Type 0) (j : ℕ) (xs : List X) → AllByRecursion P xs → AllByRecursion P (drop j xs)
all-drop P zero xs all = all
all-drop P (suc j) [] all = tt
all-drop P (suc j) (x ∷ xs) all = all-drop P j xs all.1

drop-short : {X : Type 0} (j : ℕ) (xs : List X) → length (drop j xs) ≤ length xs
drop-short zero xs = omega arith
drop-short (suc j) [] = omega arith
drop-short (suc j) (x ∷ xs) = let h = drop-short j xs in omega (arith, h)

-- ---- cells that are alike in each row

pub lead-long : (n : ℕ) (s : Schedule) → IsSchedule n s → (p : List ℤ) → length (wide_lead s p) ≡ n
lead-long n s is p =
    let a = length-append (map (along p) (leading s)) (replicate (length s.lines - s.seq) (pos 0)) in
    let b = length-map (leading s) (along p) in
    let c = length-replicate (length s.lines - s.seq) (pos 0) in
    let l = is.leads in let m = is.long in
    let d = length-take-le s.seq s.lines (omega (arith, l, m)) in
    omega (arith, a, b, c, d, l, m)

pub tile-long : (n : ℕ) (s : Schedule) → IsSchedule n s → (p : List ℤ) → length (wide_tile s p) ≡ n
tile-long n s is p =
    let a = length-append (replicate s.seq (pos 0)) (map (tile_along p) (band s)) in
    let b = length-map (band s) (tile_along p) in
    let c = length-replicate s.seq (pos 0) in
    let d = length-drop s.seq s.lines in
    let l = is.leads in let m = is.long in
    omega (arith, a, b, c, d, l, m)

waves-same : (p q : List ℤ) (ls : List Line) → map (tile_along p) ls ≡ map (tile_along q) ls → wave_of p ls ≡ wave_of q ls
waves-same p q [] h = refl
waves-same p q (l ∷ ls) h =
    let here : tile_along p l ≡ tile_along q l = ap (λ (xs : List ℤ). counter xs 0) h in
    let rest : map (tile_along p) ls ≡ map (tile_along q) ls = ap (drop 1) h in
    ap₂ (λ (a b : ℤ). (if l.parallel then pos 0 else a) +ℤ b) here (waves-same p q ls rest)

cancel : (n : ℕ) (xs ys : List ℤ) → replicate n (pos 0) ++ xs ≡ replicate n (pos 0) ++ ys → xs ≡ ys
cancel zero xs ys h = h
cancel (suc n) xs ys h = cancel n xs ys (ap (drop 1) h)

front-at : (front : List ℤ) (v : ℤ) (k : ℕ) → k < length front → counter (front ++ v ∷ []) k ≡ counter front k
front-at [] v k h = absurd (omega arith)
front-at (x ∷ front) v zero h = refl
front-at (x ∷ front) v (suc k) h = front-at front v k (omega arith)

last-at : (front : List ℤ) (v : ℤ) → counter (front ++ v ∷ []) (length front) ≡ v
last-at [] v = refl
last-at (x ∷ front) v = last-at front v

divided-by-one : (z : ℤ) → int_div_euclid z (pos 1) ≡ z
divided-by-one z = (quotient_is_interval z (pos 1) z (omega (arith, ints))).1 (omega (arith, ints), omega (arith, ints))

-- the cells of the places of a stretch in tiles before one
pub record IsBefore (n : ℕ) (e : Extent) (inverse : List (List ℤ)) (s : Stretch) (to : ℤ) (cell : Cell) : Type 0 where
  pub of : IsCellOf e inverse s cell
  pub before : int_div_euclid of.value (pos (last_size n e.schedule)) <ℤ to

module _ (n : ℕ) (e : Extent) (inverse : List (List ℤ)) (blocks : List BlockScan) (is : IsFrame n e inverse blocks) where
  size-some : (k : ℕ) → k < n → 0 < (line_at e.schedule k).size
  size-some k h = let l = is.schedule.long in is.schedule.sizes k no-line (omega (arith, h, l))

  module _ (x : Instance) (predicted : Predicted e.table e.chunk x) where
    abbrev p : List ℤ
    p = padded e.table x

    near : (k : ℕ) → k < n → IsNear (counter (place e.schedule p) k)
    near k h = near-places n e inverse blocks is x predicted k h

    pub lead-fits : (numbers : List ℤ) → length numbers ≡ n → numbers ≡ wide_lead e.schedule p → (k : ℕ) → FitsSigned w64 (counter numbers k)
    lead-fits numbers long same k = ⊎_elim
        (λ l. subst (FitsSigned w64) (sym (ap (λ (xs : List ℤ). counter xs k) same ∙ lead-at n e.schedule is.schedule p k l)) (by (nat_lt k e.schedule.seq) (near k l)))
        (λ l. subst (FitsSigned w64) (sym (past numbers k (omega (arith, l, long)))) zero-fits)
        (cases_lt k n)
      where
        by : (b : Bool) → IsNear (counter (place e.schedule p) k) → FitsSigned w64 (if b then counter (place e.schedule p) k else pos 0)
        by true h = near-fits (counter (place e.schedule p) k) h
        by false h = zero-fits

    tile-small : (k : ℕ) → k < n → unsigned_abs (int_div_euclid (counter (place e.schedule p) k) (pos (line_at e.schedule k).size)) ≤ 2 ^ 59
    tile-small k h =
        let f = floor-small (counter (place e.schedule p) k) (line_at e.schedule k).size (size-some k h) in
        let a = (near k h).low in let b = (near k h).high in
        omega (arith, ints, f, a, b)

    pub tile-fits : (numbers : List ℤ) → length numbers ≡ n → numbers ≡ wide_tile e.schedule p → (k : ℕ) → FitsSigned w64 (counter numbers k)
    tile-fits numbers long same k = ⊎_elim
        (λ l. subst (FitsSigned w64) (sym (ap (λ (xs : List ℤ). counter xs k) same ∙ tile-at n e.schedule is.schedule p k l)) (by (nat_lt k e.schedule.seq) (tile-small k l)))
        (λ l. subst (FitsSigned w64) (sym (past numbers k (omega (arith, l, long)))) zero-fits)
        (cases_lt k n)
      where
        by : (b : Bool) → unsigned_abs (int_div_euclid (counter (place e.schedule p) k) (pos (line_at e.schedule k).size)) ≤ 2 ^ 59
            → FitsSigned w64 (if b then pos 0 else int_div_euclid (counter (place e.schedule p) k) (pos (line_at e.schedule k).size))
        by true h = zero-fits
        by false h = fits_signed_from_abs w64 _ (omega (arith, h))

    pub wave-fits : FitsSigned w64 (wave e.schedule p)
    wave-fits =
        let long = is.schedule.long in
        let lines = all-lines (λ (l : Line). unsigned_abs (tile_along p l) ≤ 2 ^ 59) e.schedule.lines (λ k h.
        let inside : k < n = omega (arith, h, long) in
        subst (λ (z : ℤ). unsigned_abs (int_div_euclid z (pos (line_at e.schedule k).size)) ≤ 2 ^ 59) (get_or-place e.schedule p k h) (tile-small k inside)) in
        let w = waves-small p (band e.schedule) (all-drop (λ (l : Line). unsigned_abs (tile_along p l) ≤ 2 ^ 59) e.schedule.seq e.schedule.lines lines) in
        let short = drop-short e.schedule.seq e.schedule.lines in
        let few = is.few in
        fits_signed_from_abs w64 (wave e.schedule p) (bound (length (band e.schedule)) (unsigned_abs (wave e.schedule p)) w (omega (arith, short, long, few)))
      where
        bound : (l m : ℕ) → m ≤ l * 2 ^ 59 → l ≤ 6 → m < 2 ^ 63
        bound l m h k = omega (arith, h, k)

  -- two points of one cell: alike before the last row, and in one tile there
  pub same-cell_at : (front : List ℤ) (v w : ℤ) (x y : Instance) → place e.schedule (padded e.table x) ≡ front ++ v ∷ [] → place e.schedule (padded e.table y) ≡ front ++ w ∷ []
      → int_div_euclid v (pos (last_size n e.schedule)) ≡ int_div_euclid w (pos (last_size n e.schedule)) → cell_of e.schedule (padded e.table x) ≡ cell_of e.schedule (padded e.table y)
  same-cell_at front v w x y px py tiles = cells leads tiled waved
    where
      long : length front + 1 ≡ n
      long = let a = ap length (sym px) ∙ length-place n e.schedule is.schedule (padded e.table x) in let b = length-append front (v ∷ []) in omega (arith, a, b)

      before : (k : ℕ) → k < length front → counter (place e.schedule (padded e.table x)) k ≡ counter (place e.schedule (padded e.table y)) k
      before k h = ap (λ (xs : List ℤ). counter xs k) px ∙ front-at front v k h ∙ sym (front-at front w k h) ∙ ap (λ (xs : List ℤ). counter xs k) (sym py)

      at-x : counter (place e.schedule (padded e.table x)) (length front) ≡ v
      at-x = ap (λ (xs : List ℤ). counter xs (length front)) px ∙ last-at front v

      at-y : counter (place e.schedule (padded e.table y)) (length front) ≡ w
      at-y = ap (λ (xs : List ℤ). counter xs (length front)) py ∙ last-at front w

      end : n - 1 ≡ length front
      end = omega (arith, long)

      -- a last row that leads has equal numbers
      led : length front < e.schedule.seq → v ≡ w
      led h =
          let one : last_size n e.schedule ≡ 1 = ap (λ (m : ℕ). if nat_lt m e.schedule.seq then 1 else (line_at e.schedule m).size) end ∙ pick-true (nat_lt (length front) e.schedule.seq) 1 (line_at e.schedule (length front)).size (below (length front) e.schedule.seq h) in
          sym (divided-by-one v) ∙ ap (λ (m : ℕ). int_div_euclid v (pos m)) (sym one) ∙ tiles ∙ ap (λ (m : ℕ). int_div_euclid w (pos m)) one ∙ divided-by-one w

      -- one that is tiled has equal tiles
      tiled-last : e.schedule.seq ≤ length front → int_div_euclid v (pos (line_at e.schedule (length front)).size) ≡ int_div_euclid w (pos (line_at e.schedule (length front)).size)
      tiled-last h =
          let size : last_size n e.schedule ≡ (line_at e.schedule (length front)).size = ap (λ (m : ℕ). if nat_lt m e.schedule.seq then 1 else (line_at e.schedule m).size) end ∙ pick-false (nat_lt (length front) e.schedule.seq) 1 (line_at e.schedule (length front)).size (above (length front) e.schedule.seq h) in
          ap (λ (m : ℕ). int_div_euclid v (pos m)) (sym size) ∙ tiles ∙ ap (λ (m : ℕ). int_div_euclid w (pos m)) size

      lead-same : (k : ℕ) → k < n → (if nat_lt k e.schedule.seq then counter (place e.schedule (padded e.table x)) k else pos 0) ≡ (if nat_lt k e.schedule.seq then counter (place e.schedule (padded e.table y)) k else pos 0)
      lead-same k h = ⊎_elim
          (λ l. ap (λ (z : ℤ). if nat_lt k e.schedule.seq then z else pos 0) (before k l))
          (λ l. let f : k ≡ length front = omega (arith, l, h, long) in subst (λ (j : ℕ). (if nat_lt j e.schedule.seq then counter (place e.schedule (padded e.table x)) j else pos 0) ≡ (if nat_lt j e.schedule.seq then counter (place e.schedule (padded e.table y)) j else pos 0)) (sym f) last)
          (cases_lt k (length front))
        where
          last : (if nat_lt (length front) e.schedule.seq then counter (place e.schedule (padded e.table x)) (length front) else pos 0) ≡ (if nat_lt (length front) e.schedule.seq then counter (place e.schedule (padded e.table y)) (length front) else pos 0)
          last = ⊎_elim
              (λ l. ap (λ (z : ℤ). if nat_lt (length front) e.schedule.seq then z else pos 0) (at-x ∙ led l ∙ sym at-y))
              (λ l. pick-false (nat_lt (length front) e.schedule.seq) _ _ (above (length front) e.schedule.seq l) ∙ sym (pick-false (nat_lt (length front) e.schedule.seq) _ _ (above (length front) e.schedule.seq l)))
              (cases_lt (length front) e.schedule.seq)

      tile-same : (k : ℕ) → k < n → (if nat_lt k e.schedule.seq then pos 0 else int_div_euclid (counter (place e.schedule (padded e.table x)) k) (pos (line_at e.schedule k).size)) ≡ (if nat_lt k e.schedule.seq then pos 0 else int_div_euclid (counter (place e.schedule (padded e.table y)) k) (pos (line_at e.schedule k).size))
      tile-same k h = ⊎_elim
          (λ l. ap (λ (z : ℤ). if nat_lt k e.schedule.seq then pos 0 else int_div_euclid z (pos (line_at e.schedule k).size)) (before k l))
          (λ l. let f : k ≡ length front = omega (arith, l, h, long) in
          subst (λ (j : ℕ). (if nat_lt j e.schedule.seq then pos 0 else int_div_euclid (counter (place e.schedule (padded e.table x)) j) (pos (line_at e.schedule j).size)) ≡ (if nat_lt j e.schedule.seq then pos 0 else int_div_euclid (counter (place e.schedule (padded e.table y)) j) (pos (line_at e.schedule j).size))) (sym f) last)
          (cases_lt k (length front))
        where
          last : (if nat_lt (length front) e.schedule.seq then pos 0 else int_div_euclid (counter (place e.schedule (padded e.table x)) (length front)) (pos (line_at e.schedule (length front)).size)) ≡ (if nat_lt (length front) e.schedule.seq then pos 0 else int_div_euclid (counter (place e.schedule (padded e.table y)) (length front)) (pos (line_at e.schedule (length front)).size))
          last = ⊎_elim
              (λ l. pick-true (nat_lt (length front) e.schedule.seq) _ _ (below (length front) e.schedule.seq l) ∙ sym (pick-true (nat_lt (length front) e.schedule.seq) _ _ (below (length front) e.schedule.seq l)))
              (λ l. ap (λ (z : ℤ). if nat_lt (length front) e.schedule.seq then pos 0 else z) (ap (λ (z : ℤ). int_div_euclid z (pos (line_at e.schedule (length front)).size)) at-x ∙ tiled-last l ∙ ap (λ (z : ℤ). int_div_euclid z (pos (line_at e.schedule (length front)).size)) (sym at-y)))
              (cases_lt (length front) e.schedule.seq)

      leads : wide_lead e.schedule (padded e.table x) ≡ wide_lead e.schedule (padded e.table y)
      leads = same_numbers (wide_lead e.schedule (padded e.table x)) (wide_lead e.schedule (padded e.table y)) (lead-long n e.schedule is.schedule (padded e.table x) ∙ sym (lead-long n e.schedule is.schedule (padded e.table y)))
          (λ k h. let l = lead-long n e.schedule is.schedule (padded e.table x) in let i : k < n = omega (arith, l, h) in lead-at n e.schedule is.schedule (padded e.table x) k i ∙ lead-same k i ∙ sym (lead-at n e.schedule is.schedule (padded e.table y) k i))

      tiled : wide_tile e.schedule (padded e.table x) ≡ wide_tile e.schedule (padded e.table y)
      tiled = same_numbers (wide_tile e.schedule (padded e.table x)) (wide_tile e.schedule (padded e.table y)) (tile-long n e.schedule is.schedule (padded e.table x) ∙ sym (tile-long n e.schedule is.schedule (padded e.table y)))
          (λ k h. let l = tile-long n e.schedule is.schedule (padded e.table x) in let i : k < n = omega (arith, l, h) in tile-at n e.schedule is.schedule (padded e.table x) k i ∙ tile-same k i ∙ sym (tile-at n e.schedule is.schedule (padded e.table y) k i))

      waved : wave e.schedule (padded e.table x) ≡ wave e.schedule (padded e.table y)
      waved = waves-same (padded e.table x) (padded e.table y) (band e.schedule) (cancel e.schedule.seq (map (tile_along (padded e.table x)) (band e.schedule)) (map (tile_along (padded e.table y)) (band e.schedule)) tiled)

      cells : wide_lead e.schedule (padded e.table x) ≡ wide_lead e.schedule (padded e.table y) → wide_tile e.schedule (padded e.table x) ≡ wide_tile e.schedule (padded e.table y) → wave e.schedule (padded e.table x) ≡ wave e.schedule (padded e.table y)
          → cell_of e.schedule (padded e.table x) ≡ cell_of e.schedule (padded e.table y)
      cells a b c = ap₂ (λ (l t : List ℤ). record { lead = l; wave = wave e.schedule (padded e.table x); tile = t }) a b ∙ ap (λ (z : ℤ). record { lead = wide_lead e.schedule (padded e.table y); wave = z; tile = wide_tile e.schedule (padded e.table y) }) c

  -- the cell of a place is that of its instance
  pub cell-is : (rank : ℕ) (z : List ℤ) (h : IsPlaceOf e rank z) → cell_at e inverse z ≡ cell_of e.schedule (padded e.table h.at)
  cell-is rank z h = ap (cell_of e.schedule) (point-is n e inverse blocks is rank z h)

  -- ---- tile by tile

  pub none-before : (s : Stretch) (to : ℤ) (cells : List Cell) → pos 0 <ℤ pos (last_size n e.schedule) → to ≡ int_div_euclid s.low (pos (last_size n e.schedule)) → Gains (IsBefore n e inverse s to) cells cells
  none-before s to cells some start cell = (
    λ h. inl h,
    λ h. ⊎_elim (λ k. k) (λ k. absurd (let r = tiles-rise s.low k.of.value (pos (last_size n e.schedule)) some k.of.from in let b = k.before in omega (arith, ints, r, b, start))) h,
  )

  pub one-tile : (rank : ℕ) (s : Stretch) (to v : ℤ) (first old new : List Cell) → IsStretch e rank s → IsNumberIn s (pos (last_size n e.schedule)) to v
      → Gains (IsBefore n e inverse s to) first old → new ≡ old ++ cell_at e inverse (point_at s v) ∷ [] → Gains (IsBefore n e inverse s (to +ℤ pos 1)) first new
  one-tile rank s to v first old new stretch number gains more cell = (
    λ h. ⊎_elim
        (λ k. ⊎_elim (λ l. inl l) (λ l. inr (record { of = l.of; before = let b = l.before in omega (arith, ints, b) })) ((gains cell).0 k))
        (λ k. inr (only k))
        (has-cases old (cell_at e inverse (point_at s v) ∷ []) cell (subst (λ (cs : List Cell). Has cs cell) more h)),
    λ h. subst (λ (cs : List Cell). Has cs cell) (sym more) (⊎_elim
        (λ k. has-left old (cell_at e inverse (point_at s v) ∷ []) cell ((gains cell).1 (inl k)))
        (λ k. cases-int_cmp (int_div_euclid k.of.value (pos (last_size n e.schedule))) to
        (λ l. has-left old (cell_at e inverse (point_at s v) ∷ []) cell ((gains cell).1 (inr (record { of = k.of; before = l }))))
        (λ f. has-right old (cell_at e inverse (point_at s v) ∷ []) cell (inl (k.of.is ∙ alike k.of f)))
        (λ l. absurd (let b = k.before in omega (arith, ints, l, b))))
        h),
  )
    where
      only : Has (cell_at e inverse (point_at s v) ∷ []) cell → IsBefore n e inverse s (to +ℤ pos 1) cell
      only (inl f) = record { of = record { value = v; from = number.from; to = number.to; is = f }; before = let t = number.tile in omega (arith, ints, t) }
      only (inr h) = absurd h

      alike : (of : IsCellOf e inverse s cell) → int_div_euclid of.value (pos (last_size n e.schedule)) ≡ to → cell_at e inverse (point_at s of.value) ≡ cell_at e inverse (point_at s v)
      alike of f =
          let a = stretch.all of.value of.from of.to in
          let b = stretch.all v number.from number.to in
          cell-is rank (point_at s of.value) a ∙ same-cell_at s.front.items of.value v a.at b.at a.there b.there (f ∙ sym number.tile) ∙ sym (cell-is rank (point_at s v) b)

  pub all-tiles : (s : Stretch) (to : ℤ) (first new : List Cell) → pos 0 <ℤ pos (last_size n e.schedule) → int_div_euclid s.high (pos (last_size n e.schedule)) <ℤ to → Gains (IsBefore n e inverse s to) first new → Gains (IsCellOf e inverse s) first new
  all-tiles s to first new some end gains cell = (
    λ h. ⊎_elim (λ k. inl k) (λ k. inr k.of) ((gains cell).0 h),
    λ h. (gains cell).1 (⊎_elim (λ k. inl k) (λ k. inr (record { of = k; before = let r = tiles-rise k.value s.high (pos (last_size n e.schedule)) some k.to in omega (arith, ints, r, end) })) h),
  )

  -- ---- stretch by stretch

  pub none-among : (cells : List Cell) → Gains (IsCellAmong e inverse []) cells cells
  none-among cells cell = (λ h. inl h, λ h. ⊎_elim (λ k. k) (λ k. absurd k.there) h)

  pub one-stretch : (done : List Stretch) (s : Stretch) (first old new : List Cell) → Gains (IsCellAmong e inverse done) first old → Gains (IsCellOf e inverse s) old new → Gains (IsCellAmong e inverse (done ++ s ∷ [])) first new
  one-stretch done s first old new gains more cell = (
    λ h. ⊎_elim
        (λ k. ⊎_elim (λ l. inl l) (λ l. inr (record { stretch = l.stretch; there = has-left done (s ∷ []) l.stretch l.there; is = l.is })) ((gains cell).0 k))
        (λ k. inr (record { stretch = s; there = has-right done (s ∷ []) s (inl refl); is = k }))
        ((more cell).0 h),
    λ h. (more cell).1 (⊎_elim
        (λ k. inl ((gains cell).1 (inl k)))
        (λ k. ⊎_elim
        (λ l. inl ((gains cell).1 (inr (record { stretch = k.stretch; there = l; is = k.is }))))
        (λ l. inr (only k.stretch k.is l))
        (has-cases done (s ∷ []) k.stretch k.there))
        h),
  )
    where
      only : (t : Stretch) → IsCellOf e inverse t cell → Has (s ∷ []) t → IsCellOf e inverse s cell
      only t of (inl f) = subst (λ (r : Stretch). IsCellOf e inverse r cell) f of
      only t of (inr h) = absurd h

  -- ---- block by block

  pub far-box : (lows highs : List ℤ) → lows ≡ replicate n (neg_ℤ (pos (2 ^ 59))) → highs ≡ replicate n (pos (2 ^ 59)) → IsBox n lows highs
  far-box lows highs l h = record {
    long_lows = ap length l ∙ length-replicate n (neg_ℤ (pos (2 ^ 59)));
    long_highs = ap length h ∙ length-replicate n (pos (2 ^ 59));
    within_lows = subst (AllByRecursion (IsWithin LOWEST HIGHEST)) (sym l) (same (neg_ℤ (pos (2 ^ 59))) n (record { least = omega (arith, ints); greatest = omega (arith, ints) }));
    within_highs = subst (AllByRecursion (IsWithin LOWEST HIGHEST)) (sym h) (same (pos (2 ^ 59)) n (record { least = omega (arith, ints); greatest = omega (arith, ints) }));
  }
    where
      same : (x : ℤ) (n : ℕ) → IsWithin LOWEST HIGHEST x → AllByRecursion (IsWithin LOWEST HIGHEST) (replicate n x)
      same x zero h = tt
      same x (suc n) h = (h, same x n h)

  module _ (lows highs : List ℤ) (l : lows ≡ replicate n (neg_ℤ (pos (2 ^ 59)))) (h : highs ≡ replicate n (pos (2 ^ 59))) (rank : ℕ) (block : BlockScan) (finds : Finds n e rank block) (is-block : IsBlock n block) where
    abbrev list : List (List ℤ)
    list = points_in lows highs block

    has-place : (z : List ℤ) → Has list z ↔ (IsPlaceOf e rank z × (in_box lows highs z ≡ true))
    has-place z = points-of n e inverse blocks is lows highs (far-box lows highs l h) rank block finds is-block z

    place-in : (z : List ℤ) → IsPlaceOf e rank z → Has list z
    place-in z p = (has-place z).1 (
      p,
      in_box-from lows highs z (a ∙ sym c) (b ∙ sym c) (λ k i.
          let inside : k < n = omega (arith, i, c) in
          let near = subst (λ (w : List ℤ). IsNear (counter w k)) p.there (near-places n e inverse blocks is p.at p.predicted k inside) in
          let low = near.low in let high = near.high in
          let f = ap (λ (xs : List ℤ). counter xs k) l ∙ get_or-replicate n k (neg_ℤ (pos (2 ^ 59))) (pos 0) inside in
          let g = ap (λ (xs : List ℤ). counter xs k) h ∙ get_or-replicate n k (pos (2 ^ 59)) (pos 0) inside in
          (omega (arith, ints, low, f), omega (arith, ints, high, g))),
    )
      where
        a : length lows ≡ n
        a = ap length l ∙ length-replicate n (neg_ℤ (pos (2 ^ 59)))

        b : length highs ≡ n
        b = ap length h ∙ length-replicate n (pos (2 ^ 59))

        c : length z ≡ n
        c = ap length (sym p.there) ∙ length-place n e.schedule is.schedule (padded e.table p.at)

    pub far-stretch : (s : Stretch) → IsRunOf list s → IsStretch e rank s
    far-stretch s run =
        let first = ((has-place (point_at s s.low)).0 (run.all s.low (omega (arith, ints)) run.some)).0 in
        let end = ((has-place (point_at s s.high)).0 (run.all s.high run.some (omega (arith, ints)))).0 in
        let a = near-last n e inverse blocks is rank s.front.items s.low first in
        let b = near-last n e inverse blocks is rank s.front.items s.high end in
        let al = a.low in let ah = a.high in let bl = b.low in let bh = b.high in
        let long = ap length (sym first.there) ∙ length-place n e.schedule is.schedule (padded e.table first.at) in
        let size = length-append s.front.items (s.low ∷ []) in
        let few = is.few in
        record { some = run.some; first = first; all = λ v f t. ((has-place (point_at s v)).0 (run.all v f t)).0; short = omega (arith, long, size, few); small = omega (arith, ints, al, ah, bl, bh); near_low = a; near_high = b }

    -- the cells of the stretches of a block are those that have an instance of it
    pub block-cells : (stretches : List Stretch) (old new : List Cell) → AreRunsOf list stretches → ((cell : Cell) → Has old cell ↔ IsMetBelow e rank cell) → Gains (IsCellAmong e inverse stretches) old new → (cell : Cell) → Has new cell ↔ IsMetBelow e (rank + 1) cell
    block-cells stretches old new are met gains cell = (
      λ k. ⊎_elim
          (λ m. let b = (met cell).0 m in record { at = b.at; below = let c = b.below in omega (arith, c); lies = b.lies })
          (λ m.
          let run = (are.has m.stretch).0 m.there in
          let p = ((has-place (point_at m.stretch m.is.value)).0 (run.all m.is.value m.is.from m.is.to)).0 in
          record { at = p.at; below = let b = p.block in omega (arith, b); lies = record { predicted = p.predicted; inside = sym (m.is.is ∙ cell-is rank (point_at m.stretch m.is.value) p) } })
          ((gains cell).0 k),
      λ k. (gains cell).1 (⊎_elim
          (λ m. inl ((met cell).1 (record { at = k.at; below = m; lies = k.lies })))
          (λ m.
          let b = k.below in
          let p : IsPlaceOf e rank (place e.schedule (padded e.table k.at)) = record { at = k.at; predicted = k.lies.predicted; block = (let c : k.at.block ≡ rank = omega (arith, m, b) in c); there = refl } in
          let lying = are.covers (place e.schedule (padded e.table k.at)) (place-in (place e.schedule (padded e.table k.at)) p) in
          inr (record { stretch = lying.run; there = lying.there; is = record { value = lying.value; from = lying.from; to = lying.to; is = sym k.lies.inside ∙ sym (cell-is rank (place e.schedule (padded e.table k.at)) p) ∙ ap (cell_at e inverse) lying.is } }))
          (cases_lt k.at.block rank)),
    )

  pub none-met : (cell : Cell) → Has [] cell ↔ IsMetBelow e 0 cell
  none-met cell = (λ h. absurd h, λ h. let b = h.below in absurd (omega (arith, b)))

-- ---- in order

pub ordered-sorted : {X : Type 0} (cmp : X → X → Ordering) (xs : List X) → IsStrictlySortedBy cmp xs → Ordered (λ x y. cmp x y ≡ Less) xs
unfolding IsStrictlySortedBy
ordered-sorted cmp [] h = tt
ordered-sorted cmp (x ∷ xs) h = (h.0, ordered-sorted cmp xs h.1)

pub equivalence-of : {X : Type 0} (E : X → X → Bool) (cmp : X → X → Ordering) → IsTotalOrder cmp → ((x y : X) → E x y ≡ eq_by_cmp cmp x y) → IsEquivalence E
equivalence-of E cmp total ties = record {
  refl = λ x. ties x x ∙ (eq_by_cmp_equiv total).refl x;
  symm = λ x y. ties x y ∙ (eq_by_cmp_equiv total).symm x y ∙ sym (ties y x);
  congr = λ x y z h. ties x z ∙ (eq_by_cmp_equiv total).congr x y z (sym (ties x y) ∙ h) ∙ sym (ties y z);
}

-- cells that compare as equal are equal
pub cell-exact : (c d : Cell) → is_eq (ordering_then (slice_cmp int_cmp c.lead d.lead) (ordering_then (int_cmp c.wave d.wave) (slice_cmp int_cmp c.tile d.tile))) ≡ true → c ≡ d
cell-exact c d h = at (slice_cmp int_cmp c.lead d.lead) refl h
  where
    all : c.lead ≡ d.lead → c.wave ≡ d.wave → c.tile ≡ d.tile → c ≡ d
    all a b f = ap₂ (λ (l t : List ℤ). record { lead = l; wave = c.wave; tile = t }) a f ∙ ap (λ (w : ℤ). record { lead = d.lead; wave = w; tile = d.tile }) b

    third : c.lead ≡ d.lead → c.wave ≡ d.wave → (o : Ordering) → slice_cmp int_cmp c.tile d.tile ≡ o → is_eq o ≡ true → c ≡ d
    third a b Less e k = absurd (let w : false ≡ true = k in cc)
    third a b Equal e k = all a b (slice_cmp-exact c.tile d.tile e)
    third a b Greater e k = absurd (let w : false ≡ true = k in cc)

    second : c.lead ≡ d.lead → (o : Ordering) → int_cmp c.wave d.wave ≡ o → is_eq (ordering_then o (slice_cmp int_cmp c.tile d.tile)) ≡ true → c ≡ d
    second a Less e k = absurd (let w : false ≡ true = k in cc)
    second a Equal e k = third a (ap (λ (xs : List ℤ). counter xs 0) (slice_cmp-exact (c.wave ∷ []) (d.wave ∷ []) (ap (λ (o : Ordering). ordering_then o Equal) e))) (slice_cmp int_cmp c.tile d.tile) refl k
    second a Greater e k = absurd (let w : false ≡ true = k in cc)

    at : (o : Ordering) → slice_cmp int_cmp c.lead d.lead ≡ o → is_eq (ordering_then o (ordering_then (int_cmp c.wave d.wave) (slice_cmp int_cmp c.tile d.tile))) ≡ true → c ≡ d
    at Less e k = absurd (let w : false ≡ true = k in cc)
    at Equal e k = second (slice_cmp-exact c.lead d.lead e) (int_cmp c.wave d.wave) refl k
    at Greater e k = absurd (let w : false ≡ true = k in cc)
