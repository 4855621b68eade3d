-- The instances in a box, by place and then by rank.
use Rattle.std.proofs.Common.{◌≡◌, refl, sym, ap, ap₂, ◌∙◌, subst, ℕ, zero, suc, ◌<◌, ◌≤◌, ◌+◌, ◌*◌, ◌^◌, ℤ, pos, ◌≤ℤ◌, ◌<ℤ◌, unsigned_abs, Bool, true, false, ◌&&◌, List, [], ◌∷◌, ◌++◌, map, length, get_or, replicate, inl, inr, ⊎_elim, arith, Ordering, Less, Equal, Greater, int_cmp}
use Rattle.std.specs.Prelude.{◌↔◌, if◌then◌else◌, None}
use Rattle.std.specs.List.{AllByRecursion}
use Rattle.std.specs.Ordering.{nat_cmp, ordering_then}
use Rattle.std.specs.Cmp.Lexicographic.{slice_cmp}
use Rattle.std.proofs.lemmas.Int.{ints, fits_signed_from_abs}
use Rattle.std.specs.Int.{w64}
use Rattle.std.proofs.Common.{FitsSigned}
use Rattle.std.proofs.lemmas.Bool.{cases_lt, and_parts}
use Rattle.arrayvec.specs.ArrayVec.{ArrayVec}
use Rattle.orders.specs.Orders.{Ordered}
use Rattle.plain_lemmas.specs.Lists.{Has}
use Rattle.std.specs.Ordering.{is_eq}
use Rattle.std.proofs.lemmas.Cmp.{int_cmp_total, lists_total, tied_itself}
use Rattle.std.proofs.lemmas.List.{get_or-replicate, length-replicate}
use Rattle.std.proofs.lemmas.List.Elements.{All-nil, All-cons}
use Rattle.plain_lemmas.proofs.MembershipLaws.{All-has, has-get_or, has-map, all-from, all-has, has-left, has-right, has-cases, map-has}
use Rattle.orders.proofs.SortLaws.{ordering-unique}
use Rattle.std.proofs.lemmas.List.{get_or-map}
use Rattle.domain.proofs.OriginalLaws.{not-back}
use Rattle.domain.proofs.CounterLaws.{launched_places}
use Rattle.transform.proofs.LineLaws.{get_or-place}
use Rattle.plain_lemmas.proofs.OrderLaws.{slice_cmp-append-less, slice_cmp-append-same, slice_cmp-exact, ordering_then-less}
use Rattle.affine.specs.Forms.{AllWithinSize}
use Rattle.affine.specs.Matrices.{product}
use Rattle.affine.proofs.SumLaws.{abs-dot}
use Rattle.domain.specs.Tables.{IsTable, block_at, counters, cut, depth}
use Rattle.domain.specs.Instances.{Instance, instance, block_of, counter, Predicted, padded}
use Rattle.domain.proofs.PlaceLaws.{place-counter}
use Rattle.domain.proofs.PointLaws.{length-cut, cut-before, cut-after}
use Rattle.transform.specs.Schedules.{Line, IsSchedule, along, matrix, place}
use Rattle.level_walk.specs.declared.merges.Best.{Best}
use Rattle.level_walk.specs.declared.scans.BlockScan.{BlockScan}
use Rattle.level_walk.specs.declared.scans.BlockScan.TheVariants.{Scanned, Listed}
use Rattle.level_walk.specs.Orders.{Precedes}
use Rattle.level_walk.specs.Lattices.{HIGHEST, LOWEST, in_box, meets_all}
use Rattle.level_walk.specs.Listings.{listed_in}
use Rattle.level_walk.specs.Merges.{Comes as BestComes, merged, tag, tagged}
use Rattle.level_walk.specs.Spaces.{IsWithin, ListsPoints, points}
use Rattle.level_walk.specs.Walks.{IsBlock, IsBox, all_points, points_in, space_of}
use Rattle.level_walk.proofs.LatticeLaws.{meets-from, meets-to}
use Rattle.level_walk.proofs.LeastOfListLaws.{left-from, left-to}
use Rattle.level_walk.proofs.MergeLaws.{blocks-merged}
use Rattle.level_walk.proofs.PointLaws.{lists-points}
use Rattle.level_walk.proofs.WalkLaws.{ordered-in}
use Rattle.skeletons.specs.Boxes.{IsBoxOf}
use Rattle.skeletons.specs.Cells.{AreListsOf, Cell, Comes, Extent, IsLaunch, IsListOf, cell_of, place_key}
use Rattle.skeletons.specs.Frames.{AllFind, Finds, IsFrame, IsPlaceOf, all_in, chosen, instance_at, is_cell, list_in, list_of, lists_of}
use Rattle.skeletons.specs.Scans.{IsNear}
use Rattle.skeletons.proofs.BlockLaws.{length-padded, padded-at, same_numbers}
use Rattle.skeletons.proofs.BoxLaws.{in_box-at, in_box-from, length-place, within-all}

-- ---- lists

both : (a b : Bool) → a ≡ true → b ≡ true → (a && b) ≡ true
both a b e f = rw (e, f) refl

pub ordered-map : {X Y : Type 0} (f : X → Y) (R : X → X → Type 0) (S : Y → Y → Type 0) (xs : List X) → ((a b : X) → Has xs a → Has xs b → R a b → S (f a) (f b)) → Ordered R xs → Ordered S (map f xs)
ordered-map f R S [] h o = tt
ordered-map {X} {Y} f R S (x ∷ xs) h o = (
  all-from (S (f x)) (map f xs) (λ z k. let (y, there, e) = map-has f xs z k in subst (S (f x)) (sym e) (h x y (inl refl) (inr there) (all-has (R x) xs y o.0 there))),
  ordered-map f R S xs (λ a b k l. h a b (inr k) (inr l)) o.1,
)

pub chosen-has : (p : Instance → Bool) (xs : List Instance) (x : Instance) → Has (chosen p xs) x → Has xs x × (p x ≡ true)
chosen-has p [] x h = absurd h
chosen-has p (y ∷ ys) x h = by (p y) refl h (λ k. chosen-has p ys x k)
  where
    by : (b : Bool) → p y ≡ b → Has (if b then y ∷ chosen p ys else chosen p ys) x → (Has (chosen p ys) x → Has ys x × (p x ≡ true)) → Has (y ∷ ys) x × (p x ≡ true)
    by true e (inl f) more = (inl f, ap p f ∙ e)
    by true e (inr k) more = let a = more k in (inr a.0, a.1)
    by false e k more = let a = more k in (inr a.0, a.1)

pub has-chosen : (p : Instance → Bool) (xs : List Instance) (x : Instance) → Has xs x → p x ≡ true → Has (chosen p xs) x
has-chosen p [] x h i = absurd h
has-chosen p (y ∷ ys) x h i = by (p y) refl h (λ k. has-chosen p ys x k i)
  where
    by : (b : Bool) → p y ≡ b → Has (y ∷ ys) x → (Has ys x → Has (chosen p ys) x) → Has (if b then y ∷ chosen p ys else chosen p ys) x
    by true e (inl f) more = inl f
    by true e (inr k) more = inr (more k)
    by false e (inl f) more = absurd (let w : true ≡ false = sym i ∙ ap p f ∙ e in cc)
    by false e (inr k) more = more k

pub chosen-ordered : (p : Instance → Bool) (R : Instance → Instance → Type 0) (xs : List Instance) → Ordered R xs → Ordered R (chosen p xs)
chosen-ordered p R [] o = tt
chosen-ordered p R (x ∷ xs) o = by (p x) (chosen-ordered p R xs o.1)
  where
    by : (b : Bool) → Ordered R (chosen p xs) → Ordered R (if b then x ∷ chosen p xs else chosen p xs)
    by true more = (all-from (R x) (chosen p xs) (λ y h. all-has (R x) xs y o.0 (chosen-has p xs y h).0), more)
    by false more = more

equal-is : (o : Ordering) → is_eq o ≡ true → o ≡ Equal
equal-is Less h = absurd (let w : false ≡ true = h in cc)
equal-is Equal h = refl
equal-is Greater h = absurd (let w : false ≡ true = h in cc)

pub same-cell : (c d : Cell) → is_cell c d ≡ true → c ≡ d
same-cell c d h =
    let a = and_parts (is_eq (slice_cmp int_cmp c.lead d.lead) && is_eq (slice_cmp int_cmp (c.wave ∷ []) (d.wave ∷ []))) (is_eq (slice_cmp int_cmp c.tile d.tile)) h in
    let b = and_parts (is_eq (slice_cmp int_cmp c.lead d.lead)) (is_eq (slice_cmp int_cmp (c.wave ∷ []) (d.wave ∷ []))) a.0 in
    cells (slice_cmp-exact c.lead d.lead (equal-is _ b.0)) (ap (λ (xs : List ℤ). get_or xs 0 (pos 0)) (slice_cmp-exact (c.wave ∷ []) (d.wave ∷ []) (equal-is _ b.1))) (slice_cmp-exact c.tile d.tile (equal-is _ a.1))
  where
    cells : c.lead ≡ d.lead → c.wave ≡ d.wave → c.tile ≡ d.tile → c ≡ d
    cells a b e = ap₂ (λ (l t : List ℤ). record { lead = l; wave = c.wave; tile = t }) a e ∙ ap (λ (w : ℤ). record { lead = d.lead; wave = w; tile = d.tile }) b

pub cell-same : (c d : Cell) → c ≡ d → is_cell c d ≡ true
cell-same c d h = subst (λ (x : Cell). is_cell c x ≡ true) h (both (is_eq (slice_cmp int_cmp c.lead c.lead) && is_eq (slice_cmp int_cmp (c.wave ∷ []) (c.wave ∷ []))) (is_eq (slice_cmp int_cmp c.tile c.tile))
    (both (is_eq (slice_cmp int_cmp c.lead c.lead)) (is_eq (slice_cmp int_cmp (c.wave ∷ []) (c.wave ∷ []))) (itself c.lead) (itself (c.wave ∷ []))) (itself c.tile))
  where
    itself : (xs : List ℤ) → is_eq (slice_cmp int_cmp xs xs) ≡ true
    itself xs = ap is_eq (tied_itself (lists_total int_cmp_total) xs)

-- ---- the points of a block in a box

listed-has : (lows highs : List ℤ) (ps : List (ArrayVec ℤ)) (z : List ℤ) → Has (listed_in lows highs ps) z → Has (map (λ (p : ArrayVec ℤ). p.items) ps) z × (in_box lows highs z ≡ true)
listed-has lows highs [] z h = absurd h
listed-has lows highs (p ∷ ps) z h = by (in_box lows highs p.items) refl h (λ k. listed-has lows highs ps z k)
  where
    by : (b : Bool) → in_box lows highs p.items ≡ b → Has (if b then p.items ∷ listed_in lows highs ps else listed_in lows highs ps) z
        → (Has (listed_in lows highs ps) z → Has (map (λ (p : ArrayVec ℤ). p.items) ps) z × (in_box lows highs z ≡ true)) → Has (map (λ (p : ArrayVec ℤ). p.items) (p ∷ ps)) z × (in_box lows highs z ≡ true)
    by true e (inl f) more = (inl f, ap (in_box lows highs) f ∙ e)
    by true e (inr k) more = let a = more k in (inr a.0, a.1)
    by false e k more = let a = more k in (inr a.0, a.1)

has-listed : (lows highs : List ℤ) (ps : List (ArrayVec ℤ)) (z : List ℤ) → Has (map (λ (p : ArrayVec ℤ). p.items) ps) z → in_box lows highs z ≡ true → Has (listed_in lows highs ps) z
has-listed lows highs [] z h i = absurd h
has-listed lows highs (p ∷ ps) z h i = by (in_box lows highs p.items) refl h (λ k. has-listed lows highs ps z k i)
  where
    by : (b : Bool) → in_box lows highs p.items ≡ b → Has (map (λ (p : ArrayVec ℤ). p.items) (p ∷ ps)) z → (Has (map (λ (p : ArrayVec ℤ). p.items) ps) z → Has (listed_in lows highs ps) z)
        → Has (if b then p.items ∷ listed_in lows highs ps else listed_in lows highs ps) z
    by true e (inl f) more = inl f
    by true e (inr k) more = inr (more k)
    by false e (inl f) more = absurd (let w : true ≡ false = sym i ∙ ap (in_box lows highs) f ∙ e in cc)
    by false e (inr k) more = more k

module _ (n : ℕ) (e : Extent) (inverse : List (List ℤ)) (blocks : List BlockScan) (is : IsFrame n e inverse blocks) (lows highs : List ℤ) (box : IsBox n lows highs) where
  pub place-long : (rank : ℕ) (z : List ℤ) → IsPlaceOf e rank z → length z ≡ n
  place-long rank z p = ap length (sym p.there) ∙ length-place n e.schedule is.schedule (padded e.table p.at)

  pub points-of : (rank : ℕ) (b : BlockScan) → Finds n e rank b → IsBlock n b → (z : List ℤ) → Has (points_in lows highs b) z ↔ (IsPlaceOf e rank z × (in_box lows highs z ≡ true))
  points-of rank (Scanned b) finds block z = (
    λ h.
        let point = (lists.same z).0 h in
        let a = and_parts (meets_all b.rows.items z) (in_box lows highs z) point.accepted in
        ((finds z (point.long ∙ block.levels)).0 (meets-from b.rows.items z a.0), a.1),
    λ h.
        let long = place-long rank z h.0 in
        (lists.same z).1 (record {
          long = long ∙ sym block.levels;
          within = within-all LOWEST HIGHEST z (λ k i. inside k (omega (arith, i, long)) (in_box-at lows highs z h.1 k i));
          accepted = both (meets_all b.rows.items z) (in_box lows highs z) (meets-to b.rows.items z ((finds z long).1 h.0)) h.1;
        }),
  )
    where
      lists : ListsPoints (space_of lows highs b) (points (space_of lows highs b) (length b.scan.levels) [])
      lists = lists-points (space_of lows highs b)

      at : (xs : List ℤ) (k : ℕ) → AllByRecursion (IsWithin LOWEST HIGHEST) xs → k < length xs → IsWithin LOWEST HIGHEST (counter xs k)
      at [] k all i = absurd (omega arith)
      at (x ∷ xs) zero all i = all.0
      at (x ∷ xs) (suc k) all i = at xs k all.1 (omega arith)

      inside : (k : ℕ) → k < n → (counter lows k ≤ℤ counter z k) × (counter z k ≤ℤ counter highs k) → IsWithin LOWEST HIGHEST (counter z k)
      inside k i h =
          let l = (at lows k box.within_lows (let m = box.long_lows in omega (arith, i, m))).least in
          let u = (at highs k box.within_highs (let m = box.long_highs in omega (arith, i, m))).greatest in
          let a = h.0 in let b = h.1 in
          record { least = omega (arith, ints, l, a); greatest = omega (arith, ints, u, b) }
  points-of rank (Listed b) finds block z = (
    λ h.
        let a = left-from None (listed_in lows highs b.points.items) z h in
        let c = listed-has lows highs b.points.items z a.0 in
        ((finds z).0 c.0, c.1),
    λ h. left-to None (listed_in lows highs b.points.items) z (has-listed lows highs b.points.items z ((finds z).1 h.0) h.1) refl,
  )

  -- ---- the points of all blocks

  tagged-from : (q : ℕ) (bs : List BlockScan) → AllFind n e q bs → AllByRecursion (IsBlock n) bs → (best : Best) → Has (tagged q (all_points lows highs bs)) best → IsPlaceOf e best.rank best.point.items × (in_box lows highs best.point.items ≡ true)
  tagged-from q [] finds all best h = absurd h
  tagged-from q (b ∷ bs) finds all best h = ⊎_elim
      (λ k.
      let (z, there, f) = map-has (tag q) (points_in lows highs b) best k in
      subst (λ (v : Best). IsPlaceOf e v.rank v.point.items × (in_box lows highs v.point.items ≡ true)) (sym f) ((points-of q b finds.0 all.0 z).0 there))
      (λ k. tagged-from (suc q) bs finds.1 all.1 best k)
      (has-cases (map (tag q) (points_in lows highs b)) (tagged (suc q) (all_points lows highs bs)) best h)

  tagged-to : (q : ℕ) (bs : List BlockScan) → AllFind n e q bs → AllByRecursion (IsBlock n) bs → (rank : ℕ) (z : List ℤ) → q ≤ rank → rank < q + length bs → IsPlaceOf e rank z → in_box lows highs z ≡ true → Has (tagged q (all_points lows highs bs)) (tag rank z)
  tagged-to q [] finds all rank z from to p i = absurd (omega arith)
  tagged-to q (b ∷ bs) finds all rank z from to p i = ⊎_elim
      (λ l. has-right (map (tag q) (points_in lows highs b)) (tagged (suc q) (all_points lows highs bs)) (tag rank z) (tagged-to (suc q) bs finds.1 all.1 rank z (omega arith) (omega arith) p i))
      (λ l.
      let same : q ≡ rank = omega arith in
      subst (λ (r : ℕ). Has (tagged q (all_points lows highs (b ∷ bs))) (tag r z)) same
      (has-left (map (tag q) (points_in lows highs b)) (tagged (suc q) (all_points lows highs bs)) (tag q z)
      (has-map (tag q) (points_in lows highs b) z ((points-of q b finds.0 all.0 z).1 (subst (λ (r : ℕ). IsPlaceOf e r z) (sym same) p, i)))))
      (cases_lt q rank)

  all-ordered : (bs : List BlockScan) → AllByRecursion (IsBlock n) bs → AllByRecursion (Ordered Precedes) (all_points lows highs bs)
  all-ordered [] all = tt
  all-ordered (b ∷ bs) all = (ordered-in n lows highs b all.0, all-ordered bs all.1)

  -- ---- their instances

  cut-padded : (x : Instance) → Predicted e.table e.chunk x → cut (counters e.table (block_of e.table x)) (padded e.table x) ≡ x.at
  cut-padded x p =
      let c = counters e.table (block_of e.table x) in
      let l = length-cut c (padded e.table x) ∙ length-padded e.table x in
      same_numbers (cut c (padded e.table x)) x.at (l ∙ sym p.is.size) (λ k h. ⊎_elim
      (λ i. cut-before c (padded e.table x) k i ∙ padded-at e.table x k (omega (arith, l, h)) ∙ place-counter e.table (block_of e.table x) x.at k i)
      (λ i. cut-after c (padded e.table x) k i ∙ sym (p.is.rest k i))
      (cases_lt k c))

  pub instance-is : (best : Best) (p : IsPlaceOf e best.rank best.point.items) → instance_at e inverse best ≡ p.at
  instance-is best p = ap₂ instance (sym p.block) (
      ap₂ (λ (r : ℕ) (q : List ℤ). cut (counters e.table (block_at e.table r)) q) (sym p.block)
      (ap (product inverse) (sym p.there) ∙ is.there (padded e.table p.at) (length-padded e.table p.at ∙ is.table.deep))
      ∙ cut-padded p.at p.predicted)

  pub merged-has : (best : Best) → Has (merged (all_points lows highs blocks)) best → IsPlaceOf e best.rank best.point.items × (in_box lows highs best.point.items ≡ true)
  merged-has best h = tagged-from 0 blocks is.finds is.scans.all best (((blocks-merged (all_points lows highs blocks) (all-ordered blocks is.scans.all)).same best).0 h)

  pub list-has : (x : Instance) → Has (list_in e inverse blocks lows highs) x ↔ (Predicted e.table e.chunk x × (in_box lows highs (place e.schedule (padded e.table x)) ≡ true))
  list-has x = (
    λ h.
        let (best, there, f) = map-has (instance_at e inverse) (merged (all_points lows highs blocks)) x h in
        let a = merged-has best there in
        let g : x ≡ a.0.at = f ∙ instance-is best a.0 in
        (subst (Predicted e.table e.chunk) (sym g) a.0.predicted, ap (λ (y : Instance). in_box lows highs (place e.schedule (padded e.table y))) g ∙ ap (in_box lows highs) a.0.there ∙ a.1),
    λ h.
        let z = place e.schedule (padded e.table x) in
        let p : IsPlaceOf e x.block z = record { at = x; predicted = h.0; block = refl; there = refl } in
        let inside : x.block < 0 + length blocks = (let c = is.count in let b = h.0.is.block in omega (arith, c, b)) in
        let t = tagged-to 0 blocks is.finds is.scans.all x.block z (omega arith) inside p h.1 in
        let m = ((blocks-merged (all_points lows highs blocks) (all-ordered blocks is.scans.all)).same (tag x.block z)).1 t in
        subst (Has (list_in e inverse blocks lows highs)) (instance-is (tag x.block z) p) (has-map (instance_at e inverse) (merged (all_points lows highs blocks)) (tag x.block z) m),
  )

  -- by place and then by rank
  comes : (a b : Best) (p : IsPlaceOf e a.rank a.point.items) (q : IsPlaceOf e b.rank b.point.items) → BestComes a b → Comes e p.at q.at
  comes a b p q h = by (slice_cmp int_cmp a.point.items b.point.items) refl h
    where
      key : slice_cmp int_cmp (a.point.items ++ pos a.rank ∷ []) (b.point.items ++ pos b.rank ∷ []) ≡ Less → Comes e p.at q.at
      key l = rw (p.there, q.there, p.block, q.block) l

      ranks : nat_cmp a.rank b.rank ≡ Less → slice_cmp int_cmp (pos a.rank ∷ []) (pos b.rank ∷ []) ≡ Less
      ranks l = let i : pos a.rank <ℤ pos b.rank = less a.rank b.rank l in ordering_then-less (pos a.rank) (pos b.rank) Equal i
        where
          less : (x y : ℕ) → nat_cmp x y ≡ Less → pos x <ℤ pos y
          less x y l = grind (arith, ints)

      by : (o : Ordering) → slice_cmp int_cmp a.point.items b.point.items ≡ o → ordering_then o (nat_cmp a.rank b.rank) ≡ Less → Comes e p.at q.at
      by Less f l = key (slice_cmp-append-less a.point.items b.point.items (pos a.rank ∷ []) (pos b.rank ∷ []) (place-long a.rank a.point.items p ∙ sym (place-long b.rank b.point.items q)) f)
      by Equal f l =
          let same = slice_cmp-exact a.point.items b.point.items f in
          key (subst (λ (z : List ℤ). slice_cmp int_cmp (a.point.items ++ pos a.rank ∷ []) (z ++ pos b.rank ∷ []) ≡ Less) same (slice_cmp-append-same a.point.items (pos a.rank ∷ []) (pos b.rank ∷ []) ∙ ranks l))
      by Greater f l = absurd (let w : Greater ≡ Less = l in cc)

  pub list-ordered : Ordered (Comes e) (list_in e inverse blocks lows highs)
  list-ordered = ordered-map (instance_at e inverse) BestComes (Comes e) (merged (all_points lows highs blocks))
      (λ a b k l h.
      let p = merged-has a k in
      let q = merged-has b l in
      subst (λ (x : Instance). Comes e x (instance_at e inverse b)) (sym (instance-is a p.0)) (subst (λ (y : Instance). Comes e p.0.at y) (sym (instance-is b q.0)) (comes a b p.0 q.0 h)))
      (blocks-merged (all_points lows highs blocks) (all-ordered blocks is.scans.all)).ordered

-- ---- places are near

module _ (n : ℕ) (e : Extent) (few : n ≤ 6) (table : IsTable n e.table) (schedule : IsSchedule n e.schedule) (launch : IsLaunch e.table e.chunk) where
  padded-number_of : (x : Instance) → Predicted e.table e.chunk x → (j : ℕ) → j < depth e.table → unsigned_abs (counter (padded e.table x) j) ≤ 2 ^ 33
  padded-number_of x p j h =
      let l = launched_places n e.table launch.words e.chunk launch.instances table launch.first launch.some launch.launched x p j in
      let a = l.0 in let b = l.1 in let f = launch.far in let at = padded-at e.table x j h in
      omega (arith, ints, a, b, f, at)

  pub padded-fits-of : (x : Instance) → Predicted e.table e.chunk x → (j : ℕ) → FitsSigned w64 (counter (padded e.table x) j)
  padded-fits-of x p j = ⊎_elim
      (λ l. let h = padded-number_of x p j l in fits_signed_from_abs w64 (counter (padded e.table x) j) (omega (arith, h)))
      (λ l. subst (FitsSigned w64) (sym (past (padded e.table x) j (let m = length-padded e.table x in omega (arith, l, m)))) (fits_signed_from_abs w64 (pos 0) (omega arith)))
      (cases_lt j (depth e.table))
    where
      past : (xs : List ℤ) (k : ℕ) → length xs ≤ k → get_or xs k (pos 0) ≡ pos 0
      past [] k h = refl
      past (x ∷ xs) zero h = absurd (omega arith)
      past (x ∷ xs) (suc k) h = past xs k (omega arith)

  pub near-places-of : (x : Instance) → Predicted e.table e.chunk x → (k : ℕ) → k < n → IsNear (counter (place e.schedule (padded e.table x)) k)
  near-places-of x p k inside =
      subst IsNear (sym (get_or-place e.schedule (padded e.table x) k (let l = schedule.long in omega (arith, l, inside))))
      (let d = abs-dot row (padded e.table x) (2 ^ 20) (2 ^ 33) row-small point-small in
      let m = few-times (length row) row-few in
      near (along (padded e.table x) line) (omega (arith, d, m)))
    where
      line : Line
      line = get_or e.schedule.lines k (record { row = []; size = 0; parallel = false })

      row : List ℤ
      row = line.row

      in-matrix : Has (matrix e.schedule) row
      in-matrix = has-map (λ (l : Line). l.row) e.schedule.lines line (has-get_or e.schedule.lines k (record { row = []; size = 0; parallel = false }) (let l = schedule.long in omega (arith, l, inside)))

      row-small : AllWithinSize (2 ^ 20) row
      row-small = All-has (AllWithinSize (2 ^ 20)) (matrix e.schedule) row schedule.small in-matrix

      row-few : length row ≤ 6
      row-few = let l = all-has (λ (r : List ℤ). length r ≡ n) (matrix e.schedule) row schedule.square.long in-matrix in let f = few in omega (arith, l, f)

      few-times : (l : ℕ) → l ≤ 6 → l * (2 ^ 20 * 2 ^ 33) ≤ 2 ^ 59
      few-times l h = omega arith

      near : (z : ℤ) → unsigned_abs z ≤ 2 ^ 59 → IsNear z
      near z h = record { low = omega (arith, ints, h); high = omega (arith, ints, h) }

      point-small : AllWithinSize (2 ^ 33) (padded e.table x)
      point-small = all-small (padded e.table x) (λ j h. padded-number_of x p j (let l = length-padded e.table x in omega (arith, l, h)))
        where
          all-small : (xs : List ℤ) → ((j : ℕ) → j < length xs → unsigned_abs (counter xs j) ≤ 2 ^ 33) → AllWithinSize (2 ^ 33) xs
          all-small [] h = All-nil (λ v. unsigned_abs v ≤ 2 ^ 33)
          all-small (v ∷ xs) h = All-cons (λ v. unsigned_abs v ≤ 2 ^ 33) v xs (h 0 (omega arith)) (all-small xs (λ j i. h (suc j) (omega arith)))

module _ (n : ℕ) (e : Extent) (inverse : List (List ℤ)) (blocks : List BlockScan) (is : IsFrame n e inverse blocks) where
  pub padded-fits : (x : Instance) → Predicted e.table e.chunk x → (j : ℕ) → FitsSigned w64 (counter (padded e.table x) j)
  padded-fits = padded-fits-of n e is.few is.table is.schedule is.launch

  pub near-places : (x : Instance) → Predicted e.table e.chunk x → (k : ℕ) → k < n → IsNear (counter (place e.schedule (padded e.table x)) k)
  near-places = near-places-of n e is.few is.table is.schedule is.launch

  pub point-is : (rank : ℕ) (z : List ℤ) (p : IsPlaceOf e rank z) → product inverse z ≡ padded e.table p.at
  point-is rank z p = ap (product inverse) (sym p.there) ∙ is.there (padded e.table p.at) (length-padded e.table p.at ∙ is.table.deep)

  -- the list in the box of a cell is that of the cell
  pub cell-list : (cell : Cell) (lows highs : List ℤ) → IsBoxOf n e.schedule cell lows highs → IsListOf e cell (list_in e inverse blocks lows highs)
  cell-list cell lows highs box = record {
    ordered = list-ordered n e inverse blocks is lows highs box.is;
    has = λ x. (
      λ h. let a = (list-has n e inverse blocks is lows highs box.is x).0 h in record { predicted = a.0; inside = (box.exact (padded e.table x) (near-places x a.0)).0 a.1 },
      λ l. (list-has n e inverse blocks is lows highs box.is x).1 (l.predicted, (box.exact (padded e.table x) (near-places x l.predicted)).1 l.inside),
    );
  }

  -- ---- the lists of cells

  far-list : IsBox n (replicate n LOWEST) (replicate n HIGHEST)
  far-list = record {
    long_lows = length-replicate n LOWEST;
    long_highs = length-replicate n HIGHEST;
    within_lows = same LOWEST n (record { least = omega (arith, ints); greatest = omega (arith, ints) });
    within_highs = same HIGHEST n (record { least = omega (arith, ints); greatest = omega (arith, ints) });
  }
    where
      same : (x : ℤ) (n : ℕ) → IsWithin LOWEST HIGHEST x → AllByRecursion (IsWithin LOWEST HIGHEST) (replicate n x)
      same x zero h = tt
      same x (suc n) h = (h, same x n h)

  pub all_in-has : (x : Instance) → Has (all_in e inverse blocks n) x ↔ Predicted e.table e.chunk x
  all_in-has x = (
    λ h. ((list-has n e inverse blocks is (replicate n LOWEST) (replicate n HIGHEST) far-list x).0 h).0,
    λ p. (list-has n e inverse blocks is (replicate n LOWEST) (replicate n HIGHEST) far-list x).1 (p, inside x p),
  )
    where
      inside : (x : Instance) → Predicted e.table e.chunk x → in_box (replicate n LOWEST) (replicate n HIGHEST) (place e.schedule (padded e.table x)) ≡ true
      inside x p =
          let l = length-place n e.schedule is.schedule (padded e.table x) in
          in_box-from (replicate n LOWEST) (replicate n HIGHEST) (place e.schedule (padded e.table x)) (length-replicate n LOWEST ∙ sym l) (length-replicate n HIGHEST ∙ sym l) (λ k h.
          let near = near-places x p k (omega (arith, l, h)) in
          let a = near.low in let b = near.high in
          let c = get_or-replicate n k LOWEST (pos 0) (omega (arith, l, h)) in
          let d = get_or-replicate n k HIGHEST (pos 0) (omega (arith, l, h)) in
          (omega (arith, ints, a, c), omega (arith, ints, b, d)))

  pub chosen-list : (cell : Cell) → IsListOf e cell (list_of e inverse blocks n cell)
  chosen-list cell = record {
    ordered = chosen-ordered (λ (x : Instance). is_cell cell (cell_of e.schedule (padded e.table x))) (Comes e) (all_in e inverse blocks n) (list-ordered n e inverse blocks is (replicate n LOWEST) (replicate n HIGHEST) far-list);
    has = λ x. (
      λ h. let a = chosen-has (λ (x : Instance). is_cell cell (cell_of e.schedule (padded e.table x))) (all_in e inverse blocks n) x h in record { predicted = (all_in-has x).0 a.0; inside = sym (same-cell cell (cell_of e.schedule (padded e.table x)) a.1) },
      λ l. has-chosen (λ (x : Instance). is_cell cell (cell_of e.schedule (padded e.table x))) (all_in e inverse blocks n) x ((all_in-has x).1 l.predicted) (cell-same cell (cell_of e.schedule (padded e.table x)) (sym l.inside)),
    );
  }

  -- there is one list of a cell
  pub one-list : (cell : Cell) (xs ys : List Instance) → IsListOf e cell xs → IsListOf e cell ys → xs ≡ ys
  one-list cell xs ys a b = ordering-unique (Comes e) (λ x y h k. not-back (place_key e x) (place_key e y) h k) xs ys a.ordered b.ordered (record {
    there = λ x h. (b.has x).1 ((a.has x).0 h);
    back = λ x h. (a.has x).1 ((b.has x).0 h);
  })

  pub lists-are : (cells : List Cell) → AreListsOf e cells (lists_of e inverse blocks n cells)
  lists-are [] = tt
  lists-are (cell ∷ cells) = (chosen-list cell, lists-are cells)

  -- the list of a tile that was entered
  pub entered : (cells : List Cell) (tile : ℕ) (cell d : Cell) (lows highs : List ℤ) → tile < length cells → cell ≡ get_or cells tile d → IsBoxOf n e.schedule cell lows highs
      → list_in e inverse blocks lows highs ≡ get_or (lists_of e inverse blocks n cells) tile []
  entered cells tile cell d lows highs inside same box =
      one-list cell (list_in e inverse blocks lows highs) (list_of e inverse blocks n cell) (cell-list cell lows highs box) (chosen-list cell)
      ∙ ap (list_of e inverse blocks n) same
      ∙ sym (get_or-map (list_of e inverse blocks n) cells tile d [] inside)
