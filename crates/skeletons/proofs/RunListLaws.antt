-- The runs of a cell are the stretches of the places that its blocks have in its box.
use Rattle.std.proofs.Common.{◌≡◌, refl, sym, ap, ap₂, ◌∙◌, subst, ℕ, zero, suc, ◌<◌, ◌≤◌, ◌+◌, ◌-◌, ℤ, pos, negsuc, ◌+ℤ◌, ◌-ℤ◌, ◌*ℤ◌, ◌≤ℤ◌, unsigned_abs, true, List, [], ◌∷◌, ◌++◌, map, length, length-append, get_or, replicate, set, ⊎_elim, arith, int_cmp}
use Rattle.std.specs.Prelude.{◌↔◌}
use Rattle.std.specs.List.{AllByRecursion}
use Rattle.std.specs.Cmp.Lexicographic.{slice_cmp}
use Rattle.std.proofs.lemmas.Int.{ints}
use Rattle.std.proofs.lemmas.Bool.{cases_lt}
use Rattle.std.proofs.lemmas.List.{length-replicate}
use Rattle.orders.specs.Orders.{Ordered}
use Rattle.plain_lemmas.specs.Lists.{Has}
use Rattle.orders.proofs.ListLaws.{ordered-append}
use Rattle.plain_lemmas.proofs.MembershipLaws.{has-cases, has-left, has-right, has-map, map-has}
use Rattle.plain_lemmas.proofs.OrderLaws.{ordering_then-less, ordering_then-same}
use Rattle.affine.specs.Inverses.{IsInverse, across}
use Rattle.affine.specs.Matrices.{product, unit_row}
use Rattle.affine.specs.Sums.{weighted}
use Rattle.affine.proofs.MoveLaws.{all-at, length-unit}
use Rattle.affine.proofs.OneToOneLaws.{product-weighted}
use Rattle.affine.proofs.SumLaws.{length-weighted}
use Rattle.domain.specs.Instances.{Instance, counter, padded}
use Rattle.transform.specs.Schedules.{Schedule, matrix, place}
use Rattle.transform.proofs.LineLaws.{place-product}
use Rattle.level_walk.specs.Lattices.{in_box}
use Rattle.level_walk.specs.Merges.{tag}
use Rattle.level_walk.specs.Stretches.{AreRunsOf, IsRunOf, point_at}
use Rattle.level_walk.specs.Stretches.{RunComes as StretchComes}
use Rattle.level_walk.specs.Walks.{IsBlock, points_in}
use Rattle.level_walk.specs.declared.runs.Run.{Run as Stretch}
use Rattle.level_walk.specs.declared.scans.BlockScan.{BlockScan}
use Rattle.level_walk.proofs.RunLaws.{split_last}
use Rattle.skeletons.specs.Boxes.{IsBoxOf}
use Rattle.skeletons.specs.Cells.{Cell, Extent, LiesIn}
use Rattle.skeletons.specs.Frames.{AllFind, Finds, IsFrame, IsPlaceOf}
use Rattle.skeletons.specs.RunLists.{IsStretch, count_of, first_at, run_of}
use Rattle.skeletons.specs.Runs.{AreRunsOf as AreCellRuns, HasPoint, IsDirection, IsRun, Run, RunComes, along, step_of}
use Rattle.skeletons.specs.Scans.{IsNear}
use Rattle.skeletons.proofs.BlockLaws.{length-padded}
use Rattle.skeletons.proofs.BoxLaws.{length-place}
use Rattle.skeletons.proofs.ListLaws.{instance-is, near-places, ordered-map, place-long, points-of}

-- ---- lists

last-at : (front : List ℤ) (v : ℤ) → counter (front ++ v ∷ []) (length front) ≡ v
last-at [] v = refl
last-at (x ∷ front) v = last-at front v

-- a list is its front and its last number
pub record IsParted (z : List ℤ) (n : ℕ) : Type 0 where
  pub front : List ℤ
  pub last : ℤ
  pub is : z ≡ front ++ last ∷ []
  pub long : length front + 1 ≡ n

parted : (z : List ℤ) (n : ℕ) → length z ≡ n → 1 ≤ n → IsParted z n
parted z n long some =
    let split = split_last z (n - 1) (pos 0) (omega (arith, long, some)) in
    record {
      front = split.front;
      last = get_or z (n - 1) (pos 0);
      is = split.is;
      long = let a = ap length split.is in let b = length-append split.front (get_or z (n - 1) (pos 0) ∷ []) in omega (arith, a, b, long);
    }

-- a number of steps in the last unit vector
last-weighted : (front : List ℤ) (v k : ℤ) → weighted (pos 1) (front ++ v ∷ []) k (set (replicate (suc (length front)) (pos 0)) (length front) (pos 1)) ≡ front ++ (v +ℤ k) ∷ []
last-weighted [] v k = ap (λ (z : ℤ). z ∷ []) (let e : pos 1 *ℤ v +ℤ k *ℤ pos 1 ≡ v +ℤ k = omega (arith, ints) in e)
last-weighted (x ∷ front) v k = ap₂ (λ (z : ℤ) zs. z ∷ zs) (let e : pos 1 *ℤ x +ℤ k *ℤ pos 0 ≡ x = omega (arith, ints) in e) (last-weighted front v k)

last-moved : (front : List ℤ) (v k : ℤ) (n : ℕ) → length front + 1 ≡ n → weighted (pos 1) (front ++ v ∷ []) k (unit_row n (n - 1)) ≡ front ++ (v +ℤ k) ∷ []
last-moved front v k n h =
    let e : n ≡ suc (length front) = omega (arith, h) in
    let f : n - 1 ≡ length front = omega (arith, h) in
    ap (weighted (pos 1) (front ++ v ∷ []) k) (ap₂ (λ (a b : ℕ). set (replicate a (pos 0)) b (pos 1)) e f) ∙ last-weighted front v k

offset : (low value : ℤ) → low ≤ℤ value → (i : ℕ) × (low +ℤ pos i ≡ value)
offset low value h = by (value -ℤ low) refl
  where
    by : (z : ℤ) → value -ℤ low ≡ z → (i : ℕ) × (low +ℤ pos i ≡ value)
    by (pos i) e = (i, omega (arith, ints, e))
    by (negsuc i) e = absurd (omega (arith, ints, e, h))

-- exactly the runs of the cell whose blocks have a rank below a number
pub record AreRunsTo (e : Extent) (direction : List ℤ) (cell : Cell) (to : ℕ) (runs : List Run) : Type 0 where
  pub ordered : Ordered (RunComes e) runs
  pub has : (r : Run) → Has runs r ↔ (IsRun e direction cell r × (r.first.block < to))

pub no-runs : (e : Extent) (direction : List ℤ) (cell : Cell) → AreRunsTo e direction cell 0 []
no-runs e direction cell = record { ordered = tt; has = λ r. (λ h. absurd h, λ h. let l = h.1 in absurd (omega (arith, l))) }

-- ---- the last column of the inverse is the last direction

keep-first : (xs : List ℤ) → weighted (pos 1) xs (pos 1) (replicate (length xs) (pos 0)) ≡ xs
keep-first [] = refl
keep-first (x ∷ xs) = ap₂ (λ (z : ℤ) zs. z ∷ zs) (let e : pos 1 *ℤ x +ℤ pos 1 *ℤ pos 0 ≡ x = omega (arith, ints) in e) (keep-first xs)

keep-second : (xs ys : List ℤ) → length xs ≡ length ys → weighted (pos 0) xs (pos 1) ys ≡ ys
keep-second [] [] h = refl
keep-second [] (y ∷ ys) h = absurd (omega arith)
keep-second (x ∷ xs) [] h = absurd (omega arith)
keep-second (x ∷ xs) (y ∷ ys) h = ap₂ (λ (z : ℤ) zs. z ∷ zs) (let e : pos 0 *ℤ x +ℤ pos 1 *ℤ y ≡ y = omega (arith, ints) in e) (keep-second xs ys (omega arith))

across-zeros : (n : ℕ) (columns : List (List ℤ)) → AllByRecursion (λ (column : List ℤ). length column ≡ n) columns → across n columns (replicate (length columns) (pos 0)) ≡ replicate n (pos 0)
across-zeros n [] all = refl
across-zeros n (column ∷ columns) all = ap (weighted (pos 0) column (pos 1)) (across-zeros n columns all.1) ∙ keep-second column (replicate n (pos 0)) (all.0 ∙ sym (length-replicate n (pos 0)))

across-unit : (n : ℕ) (columns : List (List ℤ)) (k : ℕ) → k < length columns → AllByRecursion (λ (column : List ℤ). length column ≡ n) columns → across n columns (unit_row (length columns) k) ≡ get_or columns k []
across-unit n [] k h all = absurd (omega arith)
across-unit n (column ∷ columns) zero h all =
    ap (weighted (pos 1) column (pos 1)) (across-zeros n columns all.1 ∙ ap (λ (m : ℕ). replicate m (pos 0)) (sym all.0)) ∙ keep-first column
across-unit n (column ∷ columns) (suc k) h all =
    ap (weighted (pos 0) column (pos 1)) (across-unit n columns k (omega arith) all.1)
    ∙ keep-second column (get_or columns k []) (all.0 ∙ sym (all-at (λ (column : List ℤ). length column ≡ n) columns k (omega arith) all.1))

pub is-direction : (n : ℕ) (s : Schedule) (columns : List (List ℤ)) → 1 ≤ n → IsInverse n (matrix s) columns → IsDirection n s (get_or columns (n - 1) [])
is-direction n s columns some inverse =
    let many = inverse.columns_square.many in
    record {
      long = all-at (λ (column : List ℤ). length column ≡ n) columns (n - 1) (omega (arith, some, many)) inverse.columns_square.long;
      maps = ap (product (matrix s)) (sym (across-unit n columns (n - 1) (omega (arith, some, many)) inverse.columns_square.long) ∙ ap (λ (m : ℕ). across n columns (unit_row m (n - 1))) many) ∙ inverse.back (unit_row n (n - 1)) (length-unit n (n - 1));
    }

-- ---- the blocks by rank

find-at : (n : ℕ) (e : Extent) (q k : ℕ) (bs : List BlockScan) (b : BlockScan) → AllFind n e q bs → k < length bs → b ≡ get_or bs k b → Finds n e (q + k) b
find-at n e q k [] b finds h at = absurd (omega arith)
find-at n e q zero (c ∷ bs) b finds h at = subst (λ (m : ℕ). Finds n e m b) (let f : q ≡ q + 0 = omega arith in f) (subst (Finds n e q) (sym at) finds.0)
find-at n e q (suc k) (c ∷ bs) b finds h at = subst (λ (m : ℕ). Finds n e m b) (let f : suc q + k ≡ q + suc k = omega arith in f) (find-at n e (suc q) k bs b finds.1 (omega arith) at)

pub finds-at : (n : ℕ) (e : Extent) (k : ℕ) (bs : List BlockScan) (b : BlockScan) → AllFind n e 0 bs → k < length bs → b ≡ get_or bs k b → Finds n e k b
finds-at n e k bs b finds h at = subst (λ (m : ℕ). Finds n e m b) (let f : 0 + k ≡ k = omega arith in f) (find-at n e 0 k bs b finds h at)

pub item-at : {X : Type 0} (P : X → Type 0) (xs : List X) (k : ℕ) (x : X) → AllByRecursion P xs → k < length xs → x ≡ get_or xs k x → P x
item-at P [] k x all h at = absurd (omega arith)
item-at P (y ∷ xs) zero x all h at = subst P (sym at) all.0
item-at P (y ∷ xs) (suc k) x all h at = item-at P xs k x all.1 (omega arith) at

-- ---- places

module _ (n : ℕ) (e : Extent) (inverse : List (List ℤ)) (blocks : List BlockScan) (is : IsFrame n e inverse blocks) where
  -- the last number of a place is near
  pub near-last : (rank : ℕ) (front : List ℤ) (v : ℤ) → IsPlaceOf e rank (front ++ v ∷ []) → IsNear v
  near-last rank front v p =
      let long = ap length (sym p.there) ∙ length-place n e.schedule is.schedule (padded e.table p.at) in
      let size = length-append front (v ∷ []) in
      let some = is.some in
      let near = near-places n e inverse blocks is p.at p.predicted (n - 1) (omega (arith, some)) in
      subst IsNear (ap (λ (z : List ℤ). counter z (n - 1)) p.there ∙ (let m : n - 1 ≡ length front = omega (arith, long, size) in ap (counter (front ++ v ∷ [])) m ∙ last-at front v)) near

  -- a padded point is that of its place
  pub from-place : (p q : List ℤ) → length p ≡ n → length q ≡ n → place e.schedule p ≡ place e.schedule q → p ≡ q
  from-place p q long size same = sym (is.there p long) ∙ ap (product inverse) same ∙ is.there q size

  padded-long : (x : Instance) → length (padded e.table x) ≡ n
  padded-long x = length-padded e.table x ∙ is.table.deep

  pub runs-end : (direction : List ℤ) (cell : Cell) (to : ℕ) (runs : List Run) → length blocks ≤ to → AreRunsTo e direction cell to runs → AreCellRuns e direction cell runs
  runs-end direction cell to runs end all = record {
    ordered = all.ordered;
    has = λ r. (λ h. ((all.has r).0 h).0, λ run. (all.has r).1 (run, let b = run.first.predicted.is.block in let c = is.count in omega (arith, b, c, end)));
  }

  module _ (direction : List ℤ) (last : IsDirection n e.schedule direction) where
    length-along : (p : List ℤ) (k : ℤ) → length p ≡ n → length (along direction p k) ≡ n
    length-along p k long = length-weighted (pos 1) p k direction (long ∙ sym last.long) ∙ long

    -- so many steps on, the last number of the place is so much greater
    along-place : (p front : List ℤ) (v k : ℤ) → length p ≡ n → place e.schedule p ≡ front ++ v ∷ [] → place e.schedule (along direction p k) ≡ front ++ (v +ℤ k) ∷ []
    along-place p front v k long at =
        let size = ap length (sym at) ∙ length-place n e.schedule is.schedule p in
        let more = length-append front (v ∷ []) in
        place-product e.schedule (along direction p k) ∙ product-weighted (matrix e.schedule) (pos 1) p k direction (long ∙ sym last.long)
        ∙ ap₂ (λ (x y : List ℤ). weighted (pos 1) x k y) (sym (place-product e.schedule p) ∙ at) last.maps ∙ last-moved front v k n (omega (arith, size, more))

    module _ (cell : Cell) (lows highs : List ℤ) (box : IsBoxOf n e.schedule cell lows highs) (rank : ℕ) (block : BlockScan) (finds : Finds n e rank block) (is-block : IsBlock n block) where
      abbrev list : List (List ℤ)
      list = points_in lows highs block

      has-place : (z : List ℤ) → Has list z ↔ (IsPlaceOf e rank z × (in_box lows highs z ≡ true))
      has-place z = points-of n e inverse blocks is lows highs box.is rank block finds is-block z

      point-in : (p : List ℤ) → HasPoint e cell rank p → Has list (place e.schedule p)
      point-in p h =
          let near = near-places n e inverse blocks is h.at h.lies.predicted in
          (has-place (place e.schedule p)).1 (
            record { at = h.at; predicted = h.lies.predicted; block = h.block; there = ap (place e.schedule) h.there },
            subst (λ (q : List ℤ). in_box lows highs (place e.schedule q) ≡ true) h.there ((box.exact (padded e.table h.at) near).1 h.lies.inside),
          )

      lies-at : (z : List ℤ) (h : IsPlaceOf e rank z) → in_box lows highs z ≡ true → LiesIn e cell h.at
      lies-at z h inside = record {
        predicted = h.predicted;
        inside = (box.exact (padded e.table h.at) (near-places n e inverse blocks is h.at h.predicted)).0 (subst (λ (w : List ℤ). in_box lows highs w ≡ true) (sym h.there) inside);
      }

      in-point : (p : List ℤ) → length p ≡ n → Has list (place e.schedule p) → HasPoint e cell rank p
      in-point p long h =
          let a = (has-place (place e.schedule p)).0 h in
          record { at = a.0.at; block = a.0.block; lies = lies-at (place e.schedule p) a.0 a.1; there = from-place (padded e.table a.0.at) p (padded-long a.0.at) long a.0.there }

      first-place : (s : Stretch) → IsRunOf list s → IsPlaceOf e rank (point_at s s.low) × (in_box lows highs (point_at s s.low) ≡ true)
      first-place s run = (has-place (point_at s s.low)).0 (run.all s.low (omega (arith, ints)) run.some)

      -- the first instance of a stretch
      first-is : (s : Stretch) (run : IsRunOf list s) → first_at e inverse rank s ≡ (first-place s run).0.at
      first-is s run = instance-is n e inverse blocks is lows highs box.is (tag rank (point_at s s.low)) (first-place s run).0

      first-there : (s : Stretch) (run : IsRunOf list s) → place e.schedule (padded e.table (first_at e inverse rank s)) ≡ point_at s s.low
      first-there s run = ap (λ (x : Instance). place e.schedule (padded e.table x)) (first-is s run) ∙ (first-place s run).0.there

      pub is-stretch : (s : Stretch) → IsRunOf list s → IsStretch e rank s
      is-stretch s run =
          let first = first-place s run in
          let end = (has-place (point_at s s.high)).0 (run.all s.high run.some (omega (arith, ints))) in
          let a = near-last rank s.front.items s.low first.0 in
          let b = near-last rank s.front.items s.high end.0 in
          let al = a.low in let ah = a.high in let bl = b.low in let bh = b.high in
          let long = place-long n e inverse blocks is lows highs box.is rank (point_at s s.low) first.0 in
          let size = length-append s.front.items (s.low ∷ []) in
          let few = is.few in
          record { some = run.some; first = first.0; all = λ v l h. ((has-place (point_at s v)).0 (run.all v l h)).0; short = omega (arith, long, size, few); small = omega (arith, ints, al, ah, bl, bh); near_low = a; near_high = b }

      -- the instances at the places of a stretch are a run
      of-stretch : (s : Stretch) → IsRunOf list s → IsRun e direction cell (run_of e inverse direction rank s)
      of-stretch s run = record {
        some = omega arith;
        first = subst (LiesIn e cell) (sym (first-is s run)) (lies-at (point_at s s.low) (first-place s run).0 (first-place s run).1);
        all = λ k h.
            let low = run.some in
            in-point (along direction p (pos k)) (length-along p (pos k) long) (subst (Has list) (sym (stepped (pos k))) (run.all (s.low +ℤ pos k) (omega (arith, ints)) (inside s.low s.high k low h)));
        begins = λ h. run.begins (subst (Has list) (stepped (negsuc 0) ∙ ap (λ (z : ℤ). s.front.items ++ z ∷ []) (let f : s.low +ℤ negsuc 0 ≡ s.low -ℤ pos 1 = omega (arith, ints) in f)) (point-in (along direction p (negsuc 0)) h));
        ends = λ h. run.ends (subst (Has list) (stepped (pos (count_of s)) ∙ ap (λ (z : ℤ). s.front.items ++ z ∷ []) (past s.low s.high run.some)) (point-in (along direction p (pos (count_of s))) h));
        step = refl;
      }
        where
          p : List ℤ
          p = padded e.table (first_at e inverse rank s)

          long : length p ≡ n
          long = padded-long (first_at e inverse rank s)

          stepped : (k : ℤ) → place e.schedule (along direction p k) ≡ s.front.items ++ (s.low +ℤ k) ∷ []
          stepped k = along-place p s.front.items s.low k long (first-there s run)

          inside : (low high : ℤ) (k : ℕ) → low ≤ℤ high → k < unsigned_abs (high -ℤ low) + 1 → (low +ℤ pos k) ≤ℤ high
          inside low high k l h = omega (arith, ints, l, h)

          past : (low high : ℤ) → low ≤ℤ high → low +ℤ pos (unsigned_abs (high -ℤ low) + 1) ≡ high +ℤ pos 1
          past low high l = omega (arith, ints, l)

      -- and each run of the block is that of a stretch
      pub record IsOfStretch (r : Run) : Type 0 where
        pub stretch : Stretch
        pub run : IsRunOf list stretch
        pub same : r ≡ run_of e inverse direction rank stretch

      from-run : (r : Run) → IsRun e direction cell r → r.first.block ≡ rank → IsOfStretch r
      from-run r run of-rank = record { stretch = s; run = is-run; same = same }
        where
          p : List ℤ
          p = padded e.table r.first

          long : length p ≡ n
          long = padded-long r.first

          z : IsParted (place e.schedule p) n
          z = parted (place e.schedule p) n (length-place n e.schedule is.schedule p) is.some

          stepped : (k : ℤ) → place e.schedule (along direction p k) ≡ z.front ++ (z.last +ℤ k) ∷ []
          stepped k = along-place p z.front z.last k long z.is

          s : Stretch
          s = record { front = record { items = z.front }; low = z.last; high = (z.last +ℤ pos r.count) -ℤ pos 1 }

          at : (k : ℤ) → HasPoint e cell r.first.block (along direction p k) → Has list (z.front ++ (z.last +ℤ k) ∷ [])
          at k h = subst (Has list) (stepped k) (point-in (along direction p k) (subst (λ (m : ℕ). HasPoint e cell m (along direction p k)) of-rank h))

          back : (k : ℤ) → Has list (z.front ++ (z.last +ℤ k) ∷ []) → HasPoint e cell r.first.block (along direction p k)
          back k h = subst (λ (m : ℕ). HasPoint e cell m (along direction p k)) (sym of-rank) (in-point (along direction p k) (length-along p k long) (subst (Has list) (sym (stepped k)) h))

          is-run : IsRunOf list s
          is-run = record {
            some = let c = run.some in omega (arith, ints, c);
            all = λ v l h.
                let (i, f) = offset z.last v l in
                subst (λ (w : ℤ). Has list (z.front ++ w ∷ [])) f (at (pos i) (run.all i (omega (arith, ints, f, h))));
            begins = λ h. run.begins (back (negsuc 0) (subst (λ (w : ℤ). Has list (z.front ++ w ∷ [])) (let f : z.last -ℤ pos 1 ≡ z.last +ℤ negsuc 0 = omega (arith, ints) in f) h));
            ends = λ h. run.ends (back (pos r.count) (subst (λ (w : ℤ). Has list (z.front ++ w ∷ [])) (let f : ((z.last +ℤ pos r.count) -ℤ pos 1) +ℤ pos 1 ≡ z.last +ℤ pos r.count = omega (arith, ints) in f) h));
          }

          there : IsPlaceOf e rank (point_at s s.low)
          there = record { at = r.first; predicted = run.first.predicted; block = of-rank; there = z.is }

          first : first_at e inverse rank s ≡ r.first
          first = instance-is n e inverse blocks is lows highs box.is (tag rank (point_at s s.low)) there

          count : count_of s ≡ r.count
          count = counted z.last r.count run.some
            where
              counted : (v : ℤ) (c : ℕ) → 1 ≤ c → unsigned_abs (((v +ℤ pos c) -ℤ pos 1) -ℤ v) + 1 ≡ c
              counted v c h = omega (arith, ints, h)

          same : r ≡ run_of e inverse direction rank s
          same = runs (first_at e inverse rank s) (count_of s) (sym first) (sym count)
            where
              runs : (x : Instance) (c : ℕ) → r.first ≡ x → r.count ≡ c → r ≡ record { first = x; step = step_of e direction x c; count = c }
              runs x c f g = ap (λ (l : List ℤ). record { first = r.first; step = l; count = r.count }) run.step
                  ∙ ap₂ (λ (y : Instance) (d : ℕ). record { first = y; step = step_of e direction y d; count = d }) f g

      -- ---- one block more

      pub runs-more : (runs : List Run) (stretches : List Stretch) → AreRunsOf list stretches → AreRunsTo e direction cell rank runs → AreRunsTo e direction cell (rank + 1) (runs ++ map (run_of e inverse direction rank) stretches)
      runs-more runs stretches are old = record {
        ordered = ordered-append (RunComes e) runs (map (run_of e inverse direction rank) stretches) old.ordered
            (ordered-map (run_of e inverse direction rank) StretchComes (RunComes e) stretches (λ a b h k l. comes a b (run-of a h) (run-of b k) l) are.ordered)
            across;
        has = λ r. (
          λ h. ⊎_elim
              (λ k. let a = (old.has r).0 k in let l = a.1 in (a.0, omega (arith, l)))
              (λ k. let (s, there, f) = map-has (run_of e inverse direction rank) stretches r k in
              subst (λ (q : Run). IsRun e direction cell q × (q.first.block < rank + 1)) (sym f) (of-stretch s (run-of s there), omega arith))
              (has-cases runs (map (run_of e inverse direction rank) stretches) r h),
          λ a. ⊎_elim
              (λ l. has-left runs (map (run_of e inverse direction rank) stretches) r ((old.has r).1 (a.0, l)))
              (λ l.
              let m = a.1 in
              let o = from-run r a.0 (omega (arith, l, m)) in
              has-right runs (map (run_of e inverse direction rank) stretches) r (subst (Has (map (run_of e inverse direction rank) stretches)) (sym o.same) (has-map (run_of e inverse direction rank) stretches o.stretch ((are.has o.stretch).1 o.run))))
              (cases_lt r.first.block rank),
        );
      }
        where
          run-of : (s : Stretch) → Has stretches s → IsRunOf list s
          run-of s h = (are.has s).0 h

          comes : (a b : Stretch) → IsRunOf list a → IsRunOf list b → StretchComes a b → RunComes e (run_of e inverse direction rank a) (run_of e inverse direction rank b)
          comes a b f g h =
              ap₂ (λ (x y : List ℤ). slice_cmp int_cmp (pos rank ∷ x) (pos rank ∷ y)) (first-there a f) (first-there b g)
              ∙ ordering_then-same (pos rank) (pos rank) (slice_cmp int_cmp (point_at a a.low) (point_at b b.low)) refl ∙ h

          across : (u v : Run) → Has runs u → Has (map (run_of e inverse direction rank) stretches) v → RunComes e u v
          across u v h k =
              let below = ((old.has u).0 h).1 in
              let (s, there, f) = map-has (run_of e inverse direction rank) stretches v k in
              subst (RunComes e u) (sym f) (ordering_then-less (pos u.first.block) (pos rank) _ (omega (arith, ints, below)))
