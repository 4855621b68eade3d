-- The counters of a launched chunk: each instance is the one after the one before it, and no counter rises by more than 1.
use Rattle.std.proofs.Common.{◌≡◌, refl, sym, ap, subst, ◌∙◌, ℕ, suc, ◌<◌, ◌≤◌, ◌+◌, ℤ, pos, ◌+ℤ◌, ◌-ℤ◌, ◌≤ℤ◌, ◌<ℤ◌, Some, None, List, [], ◌∷◌, ◌++◌, length, ◌⊎◌, inl, inr, ⊎_elim, append_assoc, length-append, set, get_or-set_same, get_or-set_other, length-set, arith}
use Rattle.std.proofs.lemmas.Int.{ints}
use Rattle.std.proofs.lemmas.Bool.{cases_lt}
use Rattle.plain_lemmas.proofs.OrderLaws.{cases-int_cmp}
use Rattle.plain_lemmas.proofs.MembershipLaws.{has-cases, has-right, contains-from-has, has-from-contains, all-has}
use Rattle.plain_lemmas.specs.Lists.{Has}
use Rattle.nest_lang.specs.declared.tree.Part.TheVariants.{Head, Pre, Post}
use Rattle.domain.specs.declared.chunk.Chunk.{Chunk}
use Rattle.domain.specs.declared.held.HeldWhy.TheVariants.{Many}
use Rattle.domain.specs.Tables.{Table, counters, is_post, rank_of, trip, IsTable}
use Rattle.domain.specs.Instances.{Instance, instance, block_of, counter, place, turns_of, InTurn, Predicted, Precedes, Ordered, IsOriginal, IsSuccessor, original_key, opening_at}
use Rattle.domain.specs.Steps.{next}
use Rattle.domain.specs.Launches.{IsLaunched}
use Rattle.domain.specs.Laws.{LaunchedCounters, LaunchedPlaces}
use Rattle.domain.proofs.NearLaws.{Follows, next-follows}
use Rattle.domain.proofs.PlaceLaws.{place-counter, place-turns, place-rest}
use Rattle.domain.proofs.RankLaws.{Stands, stands, has-rank, Kind, AtHead, AtPre, AtPost, kind}
use Rattle.domain.proofs.WithinLaws.{counters-of, turning-of, turns-none, turns-trip, trip-same}
use Rattle.domain.proofs.LeadLaws.{head-next, plain-place, entered}
use Rattle.domain.proofs.OriginalLaws.{successor-law, not-back, not-itself, opening-first, opening-last, opening-predicted}
use Rattle.domain.proofs.LaunchLaws.{many-instances, walk-begins}

-- ---- lists in order

ordered-suffix : {X : Type 0} (R : X → X → Type 0) (us vs : List X) → Ordered R (us ++ vs) → Ordered R vs
ordered-suffix R [] vs o = o
ordered-suffix R (u ∷ us) vs o = ordered-suffix R us vs o.1

ordered-before : {X : Type 0} (R : X → X → Type 0) (us vs : List X) (x z : X) → Ordered R (us ++ vs) → Has us z → Has vs x → R z x
ordered-before R [] vs x z o h k = absurd h
ordered-before {X} R (u ∷ us) vs x z o (inl e) k = subst (λ (v : X). R v x) (sym e) (all-has (R u) (us ++ vs) x o.0 (has-right us vs x k))
ordered-before R (u ∷ us) vs x z o (inr h) k = ordered-before R us vs x z o.1 h k

-- the counters of an instance are at most n above the chunk's first turn
pub record Near (chunk : Chunk) (x : Instance) (n : ℕ) : Type 0 where
  pub up : (k : ℕ) → pos 0 ≤ℤ counter x.at k
  pub most : (k : ℕ) → counter x.at k ≤ℤ (chunk.first +ℤ pos n)

module _ (D : ℕ) (t : Table) (is : IsTable D t) (chunk : Chunk) where
  -- what stands behind an instance of the list is the instance after it
  list-next : (xs us vs : List Instance) (x y : Instance) → IsOriginal t chunk xs → xs ≡ us ++ x ∷ y ∷ vs → y ≡ next t x
  list-next xs us vs x y o e = ⊎_elim (λ f. f) (λ l. absurd (by after.is l)) (after.next y (known y (inr (inl refl))) (ends.0.0))
    where
      order : Ordered (Precedes t) (us ++ x ∷ y ∷ vs)
      order = subst (Ordered (Precedes t)) e o.ordered

      ends : Ordered (Precedes t) (x ∷ y ∷ vs)
      ends = ordered-suffix (Precedes t) us (x ∷ y ∷ vs) order

      known : (z : Instance) → Has (x ∷ y ∷ vs) z → Predicted t chunk z
      known z h = (o.has z).0 (contains-from-has xs z (subst (λ (zs : List Instance). Has zs z) (sym e) (has-right us (x ∷ y ∷ vs) z h)))

      after : IsSuccessor t chunk x (next t x)
      after = successor-law D t is chunk x (known x (inl refl))

      past : Has (x ∷ y ∷ vs) (next t x) → Precedes t (next t x) y → ⊥
      past (inl f) l = not-itself (original_key t x) (subst (λ (v : Instance). Precedes t x v) f after.after)
      past (inr (inl f)) l = not-itself (original_key t y) (subst (λ (v : Instance). Precedes t v y) f l)
      past (inr (inr k)) l = not-back (original_key t (next t x)) (original_key t y) l (all-has (Precedes t y) vs (next t x) ends.1.0 k)

      by : Predicted t chunk (next t x) ⊎ (next t x ≡ opening_at t (chunk.first +ℤ chunk.turns)) → Precedes t (next t x) y → ⊥
      by (inl p) l =
          let h = subst (λ (zs : List Instance). Has zs (next t x)) e (has-from-contains xs (next t x) ((o.has (next t x)).1 p)) in
          ⊎_elim
          (λ k. not-back (original_key t x) (original_key t (next t x)) after.after (ordered-before (Precedes t) us (x ∷ y ∷ vs) x (next t x) order k (inl refl)))
          (λ k. past k l)
          (has-cases us (x ∷ y ∷ vs) (next t x) h)
      by (inr f) l =
          not-back (original_key t (next t x)) (original_key t y) l (subst (λ (v : Instance). Precedes t y v) (sym f) (opening-last D t is chunk y (known y (inr (inl refl)))))

  -- the list begins with the first block at the chunk's first turn
  list-first : (xs vs : List Instance) (x : Instance) → IsOriginal t chunk xs → pos 1 ≤ℤ chunk.turns → xs ≡ x ∷ vs → x ≡ opening_at t chunk.first
  list-first xs vs x o some e = ⊎_elim (λ f. f) (λ l. absurd (by here l)) (opening-first D t is chunk x ((o.has x).0 (contains-from-has xs x (subst (λ (zs : List Instance). Has zs x) (sym e) (inl refl)))))
    where
      here : Has (x ∷ vs) (opening_at t chunk.first)
      here = subst (λ (zs : List Instance). Has zs (opening_at t chunk.first)) e (has-from-contains xs (opening_at t chunk.first) ((o.has (opening_at t chunk.first)).1 (opening-predicted D t is chunk chunk.first (omega (arith, ints)) (omega (arith, ints)))))

      by : Has (x ∷ vs) (opening_at t chunk.first) → Precedes t (opening_at t chunk.first) x → ⊥
      by (inl f) l = not-itself (original_key t x) (subst (λ (v : Instance). Precedes t v x) f l)
      by (inr k) l =
          let order = subst (Ordered (Precedes t)) e o.ordered in
          not-back (original_key t x) (original_key t (opening_at t chunk.first)) (all-has (Precedes t x) vs (opening_at t chunk.first) order.0 k) l

  next-near : (x y : Instance) (n : ℕ) → y ≡ next t x → Near chunk x n → Near chunk y (n + 1)
  next-near x y n e h = subst (λ (v : Instance). Near chunk v (n + 1)) (sym e) (record { up = f.up h.up; most = λ k. let a = f.most h.up k in let b = h.most k in omega (arith, ints) })
    where
      f : Follows x.at (next t x).at
      f = next-follows t x

  module _ (words : ℤ) (instances : ℕ) (l : IsLaunched t words chunk instances) where
    few : (us vs : List Instance) (x : Instance) → l.list ≡ us ++ x ∷ vs → length us < 65536
    few us vs x e = ⊎_elim (λ h. h) (λ h. absurd (let f : Some Many ≡ None = sym (many-instances t words us x h) ∙ l.passes us x vs e in cc)) (cases_lt (length us) 65536)

    along : (vs us : List Instance) (x : Instance) → l.list ≡ us ++ x ∷ vs → Near chunk x (length us) → (z : Instance) → Has (x ∷ vs) z → Near chunk z 65535
    along vs us x e h z (inl same) =
        let m = few us vs x e in
        subst (λ (v : Instance). Near chunk v 65535) (sym same) (record { up = h.up; most = λ k. let a = h.most k in omega (arith, ints) })
    along [] us x e h z (inr k) = absurd k
    along (y ∷ vs) us x e h z (inr k) =
        along vs (us ++ x ∷ []) y (e ∙ sym (append_assoc us (x ∷ []) (y ∷ vs)))
        (subst (Near chunk y) (sym (length-append us (x ∷ []))) (next-near x y (length us) (list-next l.list us vs x y l.original e) h)) z k

    pub launched-near : pos 0 ≤ℤ chunk.first → pos 1 ≤ℤ chunk.turns → (x : Instance) → Predicted t chunk x → Near chunk x 65535
    launched-near low some x p = by l.list refl (has-from-contains l.list x ((l.original.has x).1 p))
      where
        by : (xs : List Instance) → l.list ≡ xs → Has xs x → Near chunk x 65535
        by [] e h = absurd h
        by (y ∷ ys) e h =
            let w = walk-begins D t is chunk words low some in
            let first = list-first l.list ys y l.original some e in
            along ys [] y e (subst (λ (v : Instance). Near chunk v 0) (sym first) (record { up = w.up; most = w.most })) x h

pub launched_counters : LaunchedCounters
launched_counters D t words chunk instances is low some l x p k =
    let near = launched-near D t is chunk words instances l low some x p in
    let most = near.most k in
    (near.up k, omega (arith, ints))

-- ---- padded points

set-other : (xs : List ℤ) (i j : ℕ) (v : ℤ) → (j ≡ i → ⊥) → counter (set xs i v) j ≡ counter xs j
set-other xs i j v ne = rw get_or-set_other refl

set-here : (xs : List ℤ) (i : ℕ) (v : ℤ) → i < length xs → counter (set xs i v) i ≡ v
set-here xs i v l = rw get_or-set_same refl

module _ (D : ℕ) (t : Table) (is : IsTable D t) (chunk : Chunk) where
  -- behind an inner loop with turns an instance of its last turn is predicted
  last-turn : (x : Instance) (level : ℕ) → Predicted t chunk x → Stands t Post level x.block → 1 ≤ level → level < D → pos 1 ≤ℤ trip t level x.at
      → (rank : ℕ) × Predicted t chunk (instance rank (set x.at level (trip t level x.at -ℤ pos 1)))
  last-turn x level p here from to some = (head.0 + 1, entered D t is chunk (suc level) (head.0 + 1) other (omega arith) (length-set x.at level (trip t level x.at -ℤ pos 1) ∙ size) turn zeros after.1)
    where
      head : (rank : ℕ) × (rank_of t Head (suc level) ≡ Some rank)
      head = has-rank t Head (suc level) (is.heads (suc level) (omega arith) (omega arith))

      after : (head.0 + 1 < length t.blocks) × (Stands t Pre (suc level) (head.0 + 1) ⊎ Stands t Head (suc (suc level)) (head.0 + 1))
      after = head-next D t is (suc level) head.0 (omega arith) (omega arith) (stands t Head (suc level) head.0 head.1)

      other : List ℤ
      other = set x.at level (trip t level x.at -ℤ pos 1)

      size : length x.at ≡ D
      size = p.is.size ∙ is.deep

      same : (j : ℕ) → j < level → counter (set x.at level (trip t level x.at -ℤ pos 1)) j ≡ counter x.at j
      same j l = set-other x.at level j (trip t level x.at -ℤ pos 1) (λ e. omega arith)

      trips : (j : ℕ) → j ≤ level → trip t j (set x.at level (trip t level x.at -ℤ pos 1)) ≡ trip t j x.at
      trips j l = trip-same t j (set x.at level (trip t level x.at -ℤ pos 1)) x.at (length-set x.at level (trip t level x.at -ℤ pos 1)) (λ i m. same i (omega arith))

      around : InTurn t chunk level x.at
      around = subst (λ (n : ℕ). InTurn t chunk n x.at) (turning-of t Post level x.block here) p.turn

      zeros : (j : ℕ) → suc level ≤ j → counter (set x.at level (trip t level x.at -ℤ pos 1)) j ≡ pos 0
      zeros j l = set-other x.at level j (trip t level x.at -ℤ pos 1) (λ e. omega arith) ∙ p.is.rest j (let c = counters-of t Post level x.block here in omega arith)

      turn : InTurn t chunk (suc level) (set x.at level (trip t level x.at -ℤ pos 1))
      turn = record {
        from = subst (λ (v : ℤ). chunk.first ≤ℤ v) (sym (same 0 (omega arith))) around.from;
        below = subst (λ (v : ℤ). v <ℤ (chunk.first +ℤ chunk.turns)) (sym (same 0 (omega arith))) around.below;
        inner = λ j l m. ⊎_elim
            (λ o. let b = around.inner j l o in let e = same j o in let f = trips j (omega arith) in let low = b.0 in let high = b.1 in (omega (arith, ints), omega (arith, ints)))
            (λ o. let e : level ≡ j = omega arith in
            let f = set-here x.at level (trip t level x.at -ℤ pos 1) (omega (arith, size)) in let g = trips level (omega arith) in
            subst (λ (n : ℕ). (pos 0 ≤ℤ counter (set x.at level (trip t level x.at -ℤ pos 1)) n) × (counter (set x.at level (trip t level x.at -ℤ pos 1)) n <ℤ trip t n (set x.at level (trip t level x.at -ℤ pos 1)))) e
            (omega (arith, ints), omega (arith, ints)))
            (cases_lt j level);
      }

pub launched_places : LaunchedPlaces
launched_places D t words chunk instances is low some l x p k = by (kind D t is x.block p.is.block)
  where
    near : (v : ℤ) → v ≡ counter x.at k → (pos 0 ≤ℤ v) × (v ≤ℤ (chunk.first +ℤ pos 65536))
    near v e = let h = launched_counters D t words chunk instances is low some l x p k in let from = h.0 in let to = h.1 in (omega (arith, ints), omega (arith, ints))

    none : (v : ℤ) → v ≡ pos 0 → (pos 0 ≤ℤ v) × (v ≤ℤ (chunk.first +ℤ pos 65536))
    none v e = (omega (arith, ints), omega (arith, ints))

    behind : (level : ℕ) → Stands t Post level x.block → 1 ≤ level → level < D → (pos 0 ≤ℤ turns_of (trip t level x.at)) × (turns_of (trip t level x.at) ≤ℤ (chunk.first +ℤ pos 65536))
    behind level here from to = cases-int_cmp (trip t level x.at) (pos 0)
        (λ h. none (turns_of (trip t level x.at)) (turns-none (trip t level x.at) (omega (arith, ints))))
        (λ h. none (turns_of (trip t level x.at)) (turns-none (trip t level x.at) (omega (arith, ints))))
        (λ h. let found = last-turn D t is chunk x level p here from to (omega (arith, ints)) in
        let e = turns-trip (trip t level x.at) (omega (arith, ints)) in
        let size = p.is.size in let deep = is.deep in
        let f = set-here x.at level (trip t level x.at -ℤ pos 1) (omega arith) in
        let b = launched_counters D t words chunk instances is low some l (instance found.0 (set x.at level (trip t level x.at -ℤ pos 1))) found.1 level in
        let most = b.1 in
        (omega (arith, ints), omega (arith, ints)))

    by : Kind D t is x.block → (pos 0 ≤ℤ place t (block_of t x) x.at k) × (place t (block_of t x) x.at k ≤ℤ (chunk.first +ℤ pos 65536))
    by (AtHead level from to here text) = near (place t (block_of t x) x.at k) (plain-place D t is x p.is (ap is_post here.part-is) k)
    by (AtPre level from to here text) = near (place t (block_of t x) x.at k) (plain-place D t is x p.is (ap is_post here.part-is) k)
    by (AtPost level from to here text) =
        ⊎_elim (λ h. near (place t (block_of t x) x.at k) (place-counter t (block_of t x) x.at k h))
        (λ h. ⊎_elim (λ m. none (place t (block_of t x) x.at k) (place-rest t (block_of t x) x.at k m))
        (λ m. let c = counters-of t Post level x.block here in let e : k ≡ counters t (block_of t x) = omega arith in let f : level ≡ k = omega arith in
        subst (λ (v : ℤ). (pos 0 ≤ℤ v) × (v ≤ℤ (chunk.first +ℤ pos 65536))) (sym (place-turns t (block_of t x) x.at k here.part-is e))
        (subst (λ (n : ℕ). (pos 0 ≤ℤ turns_of (trip t n x.at)) × (turns_of (trip t n x.at) ≤ℤ (chunk.first +ℤ pos 65536))) f (behind level here from to)))
        (cases_lt (counters t (block_of t x)) k))
        (cases_lt k (counters t (block_of t x)))
