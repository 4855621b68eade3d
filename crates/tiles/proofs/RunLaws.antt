-- The runs of a cell have each instance of the cell, once.
use Rattle.std.proofs.Common.{◌≡◌, refl, sym, ap, ap₂, ◌∙◌, subst, ℕ, zero, suc, ◌<◌, ◌≤◌, ◌+◌, ◌-◌, ◌^◌, ℤ, pos, negsuc, neg_ℤ, ◌+ℤ◌, ◌*ℤ◌, unsigned_abs, Bool, true, false, nat_lt, List, [], ◌∷◌, length, get_or, replicate, ◌⊎◌, inl, inr, ⊎_elim, arith, Ordering, Less, Equal, Greater, int_cmp}
use Rattle.std.specs.Prelude.{if◌then◌else◌}
use Rattle.std.specs.Cmp.Lexicographic.{slice_cmp}
use Rattle.std.proofs.Math.IntN.{+ℤ_idr, zero-*ℤ, *ℤ-zero}
use Rattle.std.proofs.lemmas.Bool.{cases_lt}
use Rattle.std.proofs.lemmas.Bool.Decides.{nat_tests}
use Rattle.std.proofs.lemmas.Cmp.{int_cmp_total, lists_total, tied_itself}
use Rattle.std.proofs.lemmas.Int.{ints}
use Rattle.std.proofs.lemmas.List.{get_or-set_same, length-replicate}
use Rattle.plain_lemmas.proofs.IntegerLaws.{one-*ℤ, +ℤ-*ℤ}
use Rattle.plain_lemmas.proofs.OrderLaws.{slice_cmp-exact}
use Rattle.affine.specs.Matrices.{product, unit_row}
use Rattle.affine.specs.Sums.{dot}
use Rattle.affine.proofs.SumLaws.{dot-weighted-point, get_or-weighted}
use Rattle.plain_lemmas.specs.Lists.{Has}
use Rattle.plain_lemmas.proofs.MembershipLaws.{contains-from-has, has-from-contains}
use Rattle.domain.specs.Tables.{IsTable, block_at, counters, cut, depth}
use Rattle.domain.specs.Instances.{Instance, instance, block_of, counter, padded, Predicted, IsInstance}
use Rattle.domain.proofs.PlaceLaws.{place-counter}
use Rattle.domain.proofs.PointLaws.{length-cut}
use Rattle.transform.specs.Schedules.{IsSchedule, matrix, place}
use Rattle.transform.proofs.LineLaws.{place-product}
use Rattle.skeletons.specs.Cells.{Cell, Extent, IsLaunch, LiesIn, cell_of}
use Rattle.skeletons.specs.Runs.{Run, IsDirection, HasPoint, IsRun, along, step_of}
use Rattle.skeletons.proofs.BlockLaws.{length-padded, padded-at}
use Rattle.skeletons.proofs.FrameLaws.{is-cut}
use Rattle.skeletons.proofs.ListLaws.{near-places-of}

-- ---- points along a direction

no-step : (x y : ℤ) → pos 1 *ℤ x +ℤ pos 0 *ℤ y ≡ x
no-step x y = rw (one-*ℤ x, zero-*ℤ y, +ℤ_idr x) refl

two-steps : (x y a b : ℤ) → pos 1 *ℤ (pos 1 *ℤ x +ℤ a *ℤ y) +ℤ b *ℤ y ≡ pos 1 *ℤ x +ℤ (a +ℤ b) *ℤ y
two-steps x y a b = rw (one-*ℤ x, one-*ℤ (x +ℤ a *ℤ y), +ℤ-*ℤ a b y) (omega (arith, ints))

pub along-none : (p d : List ℤ) → length p ≡ length d → along d p (pos 0) ≡ p
along-none [] d h = refl
along-none (x ∷ p) [] h = absurd (omega arith)
along-none (x ∷ p) (y ∷ d) h = ap₂ (λ (z : ℤ) (zs : List ℤ). z ∷ zs) (no-step x y) (along-none p d (omega arith))

pub along-along : (p d : List ℤ) (a b : ℤ) → length p ≡ length d → along d (along d p a) b ≡ along d p (a +ℤ b)
along-along [] d a b h = refl
along-along (x ∷ p) [] a b h = absurd (omega arith)
along-along (x ∷ p) (y ∷ d) a b h = ap₂ (λ (z : ℤ) (zs : List ℤ). z ∷ zs) (two-steps x y a b) (along-along p d a b (omega arith))

no-number : (z : ℤ) → pos 0 ≡ pos 1 *ℤ pos 0 +ℤ z *ℤ pos 0
no-number z = rw (*ℤ-zero z) refl

cut-along : (c : ℕ) (p d : List ℤ) (z : ℤ) → length p ≡ length d → cut c (along d p z) ≡ along (cut c d) (cut c p) z
cut-along c [] d z h = refl
cut-along c (x ∷ p) [] z h = absurd (omega arith)
cut-along zero (x ∷ p) (y ∷ d) z h = ap₂ (λ (w : ℤ) (ws : List ℤ). w ∷ ws) (no-number z) (cut-along zero p d z (omega arith))
cut-along (suc c) (x ∷ p) (y ∷ d) z h = ap (λ (ws : List ℤ). (pos 1 *ℤ x +ℤ z *ℤ y) ∷ ws) (cut-along c p d z (omega arith))

pub dot-along : (f p d : List ℤ) (z : ℤ) → length p ≡ length d → dot f (along d p z) ≡ dot f p +ℤ z *ℤ dot f d
dot-along f p d z h = dot-weighted-point f (pos 1) p z d h ∙ ap (λ (w : ℤ). w +ℤ z *ℤ dot f d) (one-*ℤ (dot f p))

product-along : (rows : List (List ℤ)) (p d : List ℤ) (z : ℤ) → length p ≡ length d → product rows (along d p z) ≡ along (product rows d) (product rows p) z
product-along [] p d z h = refl
product-along (row ∷ rows) p d z h = ap₂ (λ (w : ℤ) (ws : List ℤ). w ∷ ws) (dot-weighted-point row (pos 1) p z d h) (product-along rows p d z h)

-- ---- what can be decided

decide-number : (m n : ℕ) → (m ≡ n) ⊎ (m ≡ n → ⊥)
decide-number m n = ⊎_elim (λ l. inr (λ e. omega arith)) (λ l. ⊎_elim (λ k. inr (λ e. omega arith)) (λ k. inl (omega arith)) (cases_lt n m)) (cases_lt m n)

pub decide-list : (xs ys : List ℤ) → (xs ≡ ys) ⊎ (xs ≡ ys → ⊥)
decide-list xs ys = by (slice_cmp int_cmp xs ys) refl
  where
    itself : xs ≡ ys → slice_cmp int_cmp xs ys ≡ Equal
    itself e = ap (slice_cmp int_cmp xs) (sym e) ∙ tied_itself (lists_total int_cmp_total) xs

    by : (o : Ordering) → slice_cmp int_cmp xs ys ≡ o → (xs ≡ ys) ⊎ (xs ≡ ys → ⊥)
    by Less h = inr (λ e. let w : Less ≡ Equal = sym h ∙ itself e in cc)
    by Equal h = inl (slice_cmp-exact xs ys h)
    by Greater h = inr (λ e. let w : Greater ≡ Equal = sym h ∙ itself e in cc)

same-cell : (c d : Cell) → c.lead ≡ d.lead → c.wave ∷ [] ≡ d.wave ∷ [] → c.tile ≡ d.tile → c ≡ d
same-cell c d a b e =
    ap₂ (λ (l t : List ℤ). record { lead = l; wave = c.wave; tile = t }) a e
    ∙ ap (λ (w : List ℤ). record { lead = d.lead; wave = get_or w 0 (pos 0); tile = d.tile }) b

pub decide-cell : (c d : Cell) → (c ≡ d) ⊎ (c ≡ d → ⊥)
decide-cell c d = ⊎_elim
    (λ a. ⊎_elim
    (λ b. ⊎_elim (λ e. inl (same-cell c d a b e)) (λ no. inr (λ e. no (ap (λ (x : Cell). x.tile) e))) (decide-list c.tile d.tile))
    (λ no. inr (λ e. no (ap (λ (x : Cell). x.wave ∷ []) e)))
    (decide-list (c.wave ∷ []) (d.wave ∷ [])))
    (λ no. inr (λ e. no (ap (λ (x : Cell). x.lead) e)))
    (decide-list c.lead d.lead)

-- the last number to which something holds
pub record IsLast (H : ℕ → Type 0) : Type 0 where
  pub last : ℕ
  pub all : (k : ℕ) → k ≤ last → H k
  pub ends : H (last + 1) → ⊥

pub last_of : (H : ℕ → Type 0) (most : ℕ) → ((k : ℕ) → H k ⊎ (H k → ⊥)) → ((k : ℕ) → H k → k ≤ most) → H 0 → IsLast H
last_of H most decide bound first = go (most + 1) 0 (omega arith) (λ k l. let e : 0 ≡ k = omega arith in subst H e first)
  where
    go : (fuel k : ℕ) → k + fuel ≡ most + 1 → ((j : ℕ) → j ≤ k → H j) → IsLast H
    go zero k e all = absurd (let b = bound k (all k (omega arith)) in omega arith)
    go (suc fuel) k e all = ⊎_elim
        (λ h. go fuel (k + 1) (omega arith) (λ j l. ⊎_elim (λ m. all j (omega arith)) (λ m. let same : k + 1 ≡ j = omega arith in subst H same h) (cases_lt j (k + 1))))
        (λ no. record { last = k; all = all; ends = no })
        (decide (k + 1))

-- ---- the instances of a run

-- the instance number k of a run, from 0
abbrev pub run_at : Run → ℕ → Instance
run_at r k = instance r.first.block (along r.step r.first.at (pos k))

-- an instance of a run
pub record IsInRun (e : Extent) (direction : List ℤ) (cell : Cell) (x : Instance) : Type 0 where
  pub run : Run
  pub is : IsRun e direction cell run
  pub place : ℕ
  pub below : place < run.count
  pub at : x ≡ run_at run place

module _ (n : ℕ) (e : Extent) (some : 1 ≤ n) (few : n ≤ 6) (table : IsTable n e.table) (schedule : IsSchedule n e.schedule) (launch : IsLaunch e.table e.chunk) (direction : List ℤ) (last : IsDirection n e.schedule direction) where
  long : (x : Instance) → length (padded e.table x) ≡ length direction
  long x = length-padded e.table x ∙ table.deep ∙ sym last.long

  -- an instance by its padded point
  at-padded : (x : Instance) → IsInstance e.table x → x.at ≡ cut (counters e.table (block_of e.table x)) (padded e.table x)
  at-padded x is = is-cut (counters e.table (block_of e.table x)) (padded e.table x) x.at (is.size ∙ sym (length-padded e.table x))
      (λ k h. ⊎_elim
      (λ l. sym (padded-at e.table x k l ∙ place-counter e.table (block_of e.table x) x.at k h))
      (λ l. past x.at k (let s = is.size in omega (arith, l, s)) ∙ sym (past (padded e.table x) k (let s = length-padded e.table x in omega (arith, l, s))))
      (cases_lt k (depth e.table)))
      is.rest
    where
      past : (xs : List ℤ) (k : ℕ) → length xs ≤ k → get_or xs k (pos 0) ≡ pos 0
      past [] k h = refl
      past (x ∷ xs) zero h = absurd (omega arith)
      past (x ∷ xs) (suc k) h = past xs k (omega arith)

  pub same-instance : (x y : Instance) → IsInstance e.table x → IsInstance e.table y → x.block ≡ y.block → padded e.table x ≡ padded e.table y → x ≡ y
  same-instance x y is other block point = ap₂ instance block
      (at-padded x is
      ∙ ap₂ (λ (rank : ℕ) (p : List ℤ). cut (counters e.table (block_at e.table rank)) p) block point
      ∙ sym (at-padded y other))

  -- ---- the last number of the place tells how far points are apart

  number : List ℤ → ℤ
  number p = counter (place e.schedule p) (n - 1)

  number-along : (x : Instance) (z : ℤ) → counter (place e.schedule (along direction (padded e.table x) z)) (n - 1) ≡ counter (place e.schedule (padded e.table x)) (n - 1) +ℤ z
  number-along x z =
      let p = padded e.table x in
      let rows = matrix e.schedule in
      let size : length (product rows p) ≡ n = length-product rows p ∙ schedule.square.many in
      let units : length (unit_row n (n - 1)) ≡ n = length-unit n (n - 1) in
      ap (λ (w : List ℤ). counter w (n - 1)) (place-product e.schedule (along direction p z) ∙ product-along rows p direction z (long x) ∙ ap (λ (w : List ℤ). along w (product rows p) z) last.maps)
      ∙ get_or-weighted (pos 1) (product rows p) z (unit_row n (n - 1)) (n - 1) (omega (arith, some, size)) (omega (arith, some, units))
      ∙ ap₂ (λ (a b : ℤ). a +ℤ b) (one-*ℤ (counter (product rows p) (n - 1)) ∙ ap (λ (w : List ℤ). counter w (n - 1)) (sym (place-product e.schedule p))) (unit z)
    where
      length-product : (rows : List (List ℤ)) (p : List ℤ) → length (product rows p) ≡ length rows
      length-product [] p = refl
      length-product (r ∷ rows) p = ap suc (length-product rows p)

      length-unit : (m k : ℕ) → length (unit_row m k) ≡ m
      length-unit m k = simp (Rattle.std.proofs.lemmas.List.length-set, length-replicate)

      unit : (z : ℤ) → z *ℤ get_or (unit_row n (n - 1)) (n - 1) (pos 0) ≡ z
      unit z =
          let room : n - 1 < length (replicate n (pos 0)) = (let l = length-replicate n (pos 0) in omega (arith, some, l)) in
          let one : get_or (unit_row n (n - 1)) (n - 1) (pos 0) ≡ pos 1 = get_or-set_same (replicate n (pos 0)) (n - 1) (pos 1) (pos 0) room in
          ap (λ (w : ℤ). z *ℤ w) one ∙ (omega (arith, ints))

  -- two instances of the chunk are not far apart
  near-along : (x y : Instance) (z : ℤ) → Predicted e.table e.chunk x → Predicted e.table e.chunk y → padded e.table y ≡ along direction (padded e.table x) z → unsigned_abs z ≤ 2 ^ 60
  near-along x y z p q point =
      let a = near-places-of n e few table schedule launch x p (n - 1) (omega (arith, some)) in
      let b = near-places-of n e few table schedule launch y q (n - 1) (omega (arith, some)) in
      let apart : counter (place e.schedule (padded e.table y)) (n - 1) ≡ counter (place e.schedule (padded e.table x)) (n - 1) +ℤ z =
      ap (λ (w : List ℤ). counter (place e.schedule w) (n - 1)) point ∙ number-along x z in
      let la = a.low in let ha = a.high in let lb = b.low in let hb = b.high in
      omega (arith, ints, la, ha, lb, hb, apart)

  -- ---- whether a point has an instance

  pub record Found (xs : List Instance) (rank : ℕ) (point : List ℤ) : Type 0 where
    pub at : Instance
    pub has : Has xs at
    pub block : at.block ≡ rank
    pub there : padded e.table at ≡ point

  find : (xs : List Instance) (rank : ℕ) (point : List ℤ) → Found xs rank point ⊎ (Found xs rank point → ⊥)
  find [] rank point = inr (λ found. found.has)
  find (x ∷ xs) rank point = ⊎_elim
      (λ block. ⊎_elim (λ there. inl (record { at = x; has = inl refl; block = block; there = there })) (λ no. rest (find xs rank point) (λ f. no (ap (padded e.table) (sym f.1) ∙ f.3))) (decide-list (padded e.table x) point))
      (λ no. rest (find xs rank point) (λ f. no (ap (λ (y : Instance). y.block) (sym f.1) ∙ f.2)))
      (decide-number x.block rank)
    where
      rest : Found xs rank point ⊎ (Found xs rank point → ⊥) → (((at : Instance) × (at ≡ x) × (at.block ≡ rank) × (padded e.table at ≡ point)) → ⊥) → Found (x ∷ xs) rank point ⊎ (Found (x ∷ xs) rank point → ⊥)
      rest found other = ⊎_elim
          (λ f. inl (record { at = f.at; has = inr f.has; block = f.block; there = f.there }))
          (λ none. inr (λ f. ⊎_elim (λ same. other (f.at, same, f.block, f.there)) (λ h. none (record { at = f.at; has = h; block = f.block; there = f.there })) f.has))
          found

  decide : (cell : Cell) (rank : ℕ) (point : List ℤ) → HasPoint e cell rank point ⊎ (HasPoint e cell rank point → ⊥)
  decide cell rank point = ⊎_elim
      (λ same. ⊎_elim
      (λ f. inl (record { at = f.at; block = f.block; lies = record { predicted = (launch.launched.original.has f.at).0 (contains-from-has launch.launched.list f.at f.has); inside = ap (cell_of e.schedule) f.there ∙ same }; there = f.there }))
      (λ none. inr (λ h. none (record { at = h.at; has = has-from-contains launch.launched.list h.at ((launch.launched.original.has h.at).1 h.lies.predicted); block = h.block; there = h.there })))
      (find launch.launched.list rank point))
      (λ other. inr (λ h. other (ap (cell_of e.schedule) (sym h.there) ∙ h.lies.inside)))
      (decide-cell (cell_of e.schedule point) cell)

  -- ---- the run of an instance

  -- an instance of the cell's block so many steps from x
  abbrev Beside : Cell → Instance → ℤ → Type 0
  Beside cell x z = HasPoint e cell x.block (along direction (padded e.table x) z)

  beside-near : (cell : Cell) (x : Instance) (z : ℤ) → Predicted e.table e.chunk x → Beside cell x z → unsigned_abs z ≤ 2 ^ 60
  beside-near cell x z p h = near-along x h.at z p h.lies.predicted h.there

  -- the points from the first instance of x's run on are those from x
  moved : (x y : Instance) (z k w : ℤ) → padded e.table y ≡ along direction (padded e.table x) z → z +ℤ k ≡ w → along direction (padded e.table y) k ≡ along direction (padded e.table x) w
  moved x y z k w there sum = ap (λ (p : List ℤ). along direction p k) there ∙ along-along (padded e.table x) direction z k (long x) ∙ ap (along direction (padded e.table x)) sum

  -- ---- the instance number k of a run

  pub step-long : (r : Run) (cell : Cell) → IsRun e direction cell r → length r.step ≡ depth e.table
  step-long r cell is = ap length is.step ∙ by (nat_lt 1 r.count)
    where
      by : (b : Bool) → length (if b then cut (counters e.table (block_of e.table r.first)) direction else replicate (depth e.table) (pos 0)) ≡ depth e.table
      by true = length-cut (counters e.table (block_of e.table r.first)) direction ∙ last.long ∙ sym table.deep
      by false = length-replicate (depth e.table) (pos 0)

  pub at-run : (cell : Cell) (r : Run) (k : ℕ) (is : IsRun e direction cell r) (below : k < r.count) → (is.all k below).at ≡ run_at r k
  at-run cell r k is below = ap₂ instance h.block (at-padded h.at h.lies.predicted.is ∙ ap₂ (λ (rank : ℕ) (p : List ℤ). cut (counters e.table (block_at e.table rank)) p) h.block h.there
      ∙ cut-along c (padded e.table r.first) direction (pos k) (long r.first)
      ∙ ap (λ (p : List ℤ). along (cut c direction) p (pos k)) (sym (at-padded r.first is.first.predicted.is))
      ∙ by (nat_lt 1 r.count) refl)
    where
      h : HasPoint e cell r.first.block (along direction (padded e.table r.first) (pos k))
      h = is.all k below

      c : ℕ
      c = counters e.table (block_of e.table r.first)

      by : (b : Bool) → nat_lt 1 r.count ≡ b → along (cut (counters e.table (block_of e.table r.first)) direction) r.first.at (pos k) ≡ along r.step r.first.at (pos k)
      by true f = ap (λ (d : List ℤ). along d r.first.at (pos k)) (sym (is.step ∙ ap (λ (b : Bool). if b then cut (counters e.table (block_of e.table r.first)) direction else replicate (depth e.table) (pos 0)) f))
      by false f =
          let one : k ≡ 0 = (let s = is.some in let b = below in let t : r.count ≤ 1 = grind (arith, nat_tests) in omega arith) in
          let size = is.first.predicted.is.size in
          let cuts : length r.first.at ≡ length (cut (counters e.table (block_of e.table r.first)) direction) = size ∙ sym (length-cut (counters e.table (block_of e.table r.first)) direction ∙ last.long ∙ sym table.deep) in
          let steps : length r.first.at ≡ length r.step = size ∙ sym (step-long r cell is) in
          ap (λ (z : ℕ). along (cut (counters e.table (block_of e.table r.first)) direction) r.first.at (pos z)) one
          ∙ along-none r.first.at (cut (counters e.table (block_of e.table r.first)) direction) cuts
          ∙ sym (along-none r.first.at r.step steps)
          ∙ ap (λ (z : ℕ). along r.step r.first.at (pos z)) (sym one)

  -- it lies in the cell
  pub run-lies : (cell : Cell) (r : Run) (k : ℕ) → IsRun e direction cell r → k < r.count → LiesIn e cell (run_at r k)
  run-lies cell r k is below = subst (LiesIn e cell) (at-run cell r k is below) (is.all k below).lies

  pub run-padded : (cell : Cell) (r : Run) (k : ℕ) → IsRun e direction cell r → k < r.count → padded e.table (run_at r k) ≡ along direction (padded e.table r.first) (pos k)
  run-padded cell r k is below = subst (λ (x : Instance). padded e.table x ≡ along direction (padded e.table r.first) (pos k)) (at-run cell r k is below) (is.all k below).there

  -- ---- each instance of the cell is in a run

  pub run_of : (cell : Cell) (x : Instance) → LiesIn e cell x → IsInRun e direction cell x
  run_of cell x lies = record {
    run = run;
    is = is;
    place = down.last;
    below = omega arith;
    at = same-instance x (is.all down.last (omega arith)).at lies.predicted.is (is.all down.last (omega arith)).lies.predicted.is
        (sym ((is.all down.last (omega arith)).block ∙ first.block))
        (sym ((is.all down.last (omega arith)).there ∙ moved x first.at (neg_ℤ (pos down.last)) (pos down.last) (pos 0) first.there (omega (arith, ints)) ∙ along-none (padded e.table x) direction (long x)))
        ∙ at-run cell run down.last is (omega arith);
  }
    where
      here : Beside cell x (pos 0)
      here = record { at = x; block = refl; lies = lies; there = sym (along-none (padded e.table x) direction (long x)) }

      down : IsLast (λ k. Beside cell x (neg_ℤ (pos k)))
      down = last_of (λ k. Beside cell x (neg_ℤ (pos k))) (2 ^ 60) (λ k. decide cell x.block (along direction (padded e.table x) (neg_ℤ (pos k))))
          (λ k h. let b = beside-near cell x (neg_ℤ (pos k)) lies.predicted h in omega (arith, ints, b)) here

      up : IsLast (λ k. Beside cell x (pos k))
      up = last_of (λ k. Beside cell x (pos k)) (2 ^ 60) (λ k. decide cell x.block (along direction (padded e.table x) (pos k)))
          (λ k h. let b = beside-near cell x (pos k) lies.predicted h in omega (arith, ints, b)) here

      first : Beside cell x (neg_ℤ (pos down.last))
      first = down.all down.last (omega arith)

      count : ℕ
      count = down.last + up.last + 1

      run : Run
      run = record { first = first.at; step = step_of e direction first.at count; count = count }

      point : (k w : ℤ) → neg_ℤ (pos down.last) +ℤ k ≡ w → HasPoint e cell first.at.block (along direction (padded e.table first.at) k) → Beside cell x w
      point k w sum h = record { at = h.at; block = h.block ∙ first.block; lies = h.lies; there = h.there ∙ moved x first.at (neg_ℤ (pos down.last)) k w first.there sum }

      back : (k w : ℤ) → neg_ℤ (pos down.last) +ℤ k ≡ w → Beside cell x w → HasPoint e cell first.at.block (along direction (padded e.table first.at) k)
      back k w sum h = record { at = h.at; block = h.block ∙ sym first.block; lies = h.lies; there = h.there ∙ sym (moved x first.at (neg_ℤ (pos down.last)) k w first.there sum) }

      is : IsRun e direction cell run
      is = record {
        some = omega arith;
        first = first.lies;
        all = λ k below. ⊎_elim
            (λ l. back (pos k) (pos (k - down.last)) (omega (arith, ints)) (up.all (k - down.last) (omega arith)))
            (λ l. back (pos k) (neg_ℤ (pos (down.last - k))) (omega (arith, ints)) (down.all (down.last - k) (omega arith)))
            (cases_lt down.last k);
        begins = λ h. down.ends (point (negsuc 0) (neg_ℤ (pos (down.last + 1))) (omega (arith, ints)) h);
        ends = λ h. up.ends (point (pos count) (pos (up.last + 1)) (omega (arith, ints)) h);
        step = refl;
      }

  -- ---- and in one place of one run

  -- the first instance of a run comes at no other place of a run
  first-alone : (cell : Cell) (r q : Run) (k l : ℕ) → IsRun e direction cell r → IsRun e direction cell q → k < r.count → l < q.count → run_at r k ≡ run_at q l → k < l → ⊥
  first-alone cell r q k l is other below inside same less = is.begins (record {
    at = h.at;
    block = h.block ∙ sym block;
    lies = h.lies;
    there = h.there ∙ sym (moved q.first r.first (pos l +ℤ neg_ℤ (pos k)) (negsuc 0) (pos (l - k - 1)) begins (omega (arith, ints)));
  })
    where
      block : r.first.block ≡ q.first.block
      block = ap (λ (x : Instance). x.block) same

      h : HasPoint e cell q.first.block (along direction (padded e.table q.first) (pos (l - k - 1)))
      h = other.all (l - k - 1) (omega arith)

      begins : padded e.table r.first ≡ along direction (padded e.table q.first) (pos l +ℤ neg_ℤ (pos k))
      begins =
          sym (along-none (padded e.table r.first) direction (long r.first))
          ∙ ap (along direction (padded e.table r.first)) (let z : pos 0 ≡ pos k +ℤ neg_ℤ (pos k) = omega (arith, ints) in z)
          ∙ sym (along-along (padded e.table r.first) direction (pos k) (neg_ℤ (pos k)) (long r.first))
          ∙ ap (λ (p : List ℤ). along direction p (neg_ℤ (pos k))) (sym (run-padded cell r k is below) ∙ ap (padded e.table) same ∙ run-padded cell q l other inside)
          ∙ along-along (padded e.table q.first) direction (pos l) (neg_ℤ (pos k)) (long q.first)

  first-same : (cell : Cell) (r q : Run) (k l : ℕ) → IsRun e direction cell r → IsRun e direction cell q → k < r.count → l < q.count → run_at r k ≡ run_at q l → k ≡ l → r.first ≡ q.first
  first-same cell r q k l is other below inside same at = same-instance r.first q.first is.first.predicted.is other.first.predicted.is (ap (λ (x : Instance). x.block) same)
      (back r.first k ∙ ap (λ (p : List ℤ). along direction p (neg_ℤ (pos k))) points ∙ sym (back q.first k))
    where
      back : (x : Instance) (k : ℕ) → padded e.table x ≡ along direction (along direction (padded e.table x) (pos k)) (neg_ℤ (pos k))
      back x k =
          sym (along-none (padded e.table x) direction (long x))
          ∙ ap (along direction (padded e.table x)) (let z : pos 0 ≡ pos k +ℤ neg_ℤ (pos k) = omega (arith, ints) in z)
          ∙ sym (along-along (padded e.table x) direction (pos k) (neg_ℤ (pos k)) (long x))

      points : along direction (padded e.table r.first) (pos k) ≡ along direction (padded e.table q.first) (pos k)
      points = sym (run-padded cell r k is below) ∙ ap (padded e.table) same ∙ run-padded cell q l other inside ∙ ap (λ (m : ℕ). along direction (padded e.table q.first) (pos m)) (sym at)

  -- a run that begins as another one isn't shorter
  not-shorter : (cell : Cell) (r q : Run) → IsRun e direction cell r → IsRun e direction cell q → r.first ≡ q.first → r.count < q.count → ⊥
  not-shorter cell r q is other first less = is.ends (subst (λ (x : Instance). HasPoint e cell x.block (along direction (padded e.table x) (pos r.count))) (sym first) (other.all r.count less))

  pub run-alone : (cell : Cell) (r q : Run) (k l : ℕ) → IsRun e direction cell r → IsRun e direction cell q → k < r.count → l < q.count → run_at r k ≡ run_at q l → (r ≡ q) × (k ≡ l)
  run-alone cell r q k l is other below inside same = ⊎_elim
      (λ less. absurd (first-alone cell r q k l is other below inside same less))
      (λ m. ⊎_elim (λ less. absurd (first-alone cell q r l k other is inside below (sym same) less)) (λ h. let at : k ≡ l = omega arith in (by at, at)) (cases_lt l k))
      (cases_lt k l)
    where
      made : Instance → ℕ → Run
      made x count = record { first = x; step = step_of e direction x count; count = count }

      by : k ≡ l → r ≡ q
      by at =
          let first = first-same cell r q k l is other below inside same at in
          let count : r.count ≡ q.count = ⊎_elim
          (λ less. absurd (not-shorter cell r q is other first less))
          (λ m. ⊎_elim (λ less. absurd (not-shorter cell q r other is (sym first) less)) (λ h. omega arith) (cases_lt q.count r.count))
          (cases_lt r.count q.count) in
          ap (λ (s : List ℤ). record { first = r.first; step = s; count = r.count }) is.step
          ∙ ap₂ made first count
          ∙ sym (ap (λ (s : List ℤ). record { first = q.first; step = s; count = q.count }) other.step)
