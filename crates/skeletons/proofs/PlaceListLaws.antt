-- The instances of a launched chunk, one after another.
use Rattle.std.proofs.Common.{◌≡◌, refl, sym, ap, ◌∙◌, subst, ℕ, zero, suc, ◌<◌, ◌≤◌, ◌+◌, ℤ, pos, ◌+ℤ◌, ◌≤ℤ◌, ◌<ℤ◌, List, [], ◌∷◌, ◌++◌, length, get_or, take, drop, ◌⊎◌, inl, inr, ⊎_elim, arith, Some, None}
use Rattle.std.specs.Prelude.{◌↔◌}
use Rattle.std.proofs.lemmas.Int.{ints}
use Rattle.std.proofs.lemmas.Bool.{cases_lt}
use Rattle.std.proofs.lemmas.List.{take_all, take_more}
use Rattle.arrayvec.specs.ArrayVec.{ArrayVec}
use Rattle.plain_lemmas.specs.Lists.{Has}
use Rattle.plain_lemmas.proofs.MembershipLaws.{all-has, contains-from-has, has-cases, has-from-contains, has-left, has-right}
use Rattle.domain.specs.declared.chunk.Chunk.{Chunk}
use Rattle.domain.specs.declared.held.HeldWhy.TheVariants.{Many}
use Rattle.domain.specs.Tables.{IsTable, Table}
use Rattle.domain.specs.Instances.{Instance, IsOriginal, IsSuccessor, Ordered, Precedes, Predicted, counter, opening_at, original_key, padded}
use Rattle.domain.specs.Launches.{IsLaunched}
use Rattle.domain.specs.Steps.{CanTurn}
use Rattle.domain.proofs.CounterLaws.{launched_counters}
use Rattle.domain.proofs.LaunchLaws.{many-instances}
use Rattle.domain.proofs.OriginalLaws.{not-back, not-itself, opening-first, opening-last, opening-predicted, opening-turn}
use Rattle.transform.specs.Schedules.{Schedule, place}
use Rattle.skeletons.specs.Cells.{IsLaunch}
use Rattle.skeletons.specs.Frames.{IsPlaceOf}
use Rattle.skeletons.specs.PlaceLists.{HasPlace, Notes, numbers}

-- ---- the elements about one of a list in order

module _ {X : Type 0} (R : X → X → Type 0) where
  item : (xs : List X) (k : ℕ) (d : X) → k < length xs → Has xs (get_or xs k d)
  item [] k d h = absurd (omega arith)
  item (y ∷ ys) zero d h = inl refl
  item (y ∷ ys) (suc k) d h = inr (item ys k d (omega arith))

  before-at : (xs : List X) (k : ℕ) (d z : X) → Ordered R xs → k < length xs → Has (take k xs) z → R z (get_or xs k d)
  before-at [] k d z o h m = absurd (omega arith)
  before-at (y ∷ ys) zero d z o h m = absurd m
  before-at (y ∷ ys) (suc k) d z o h (inl e) = subst (λ (w : X). R w (get_or ys k d)) (sym e) (all-has (R y) ys (get_or ys k d) o.0 (item ys k d (omega arith)))
  before-at (y ∷ ys) (suc k) d z o h (inr m) = before-at ys k d z o.1 (omega arith) m

  after-at : (xs : List X) (k : ℕ) (d z : X) → Ordered R xs → k < length xs → Has (drop (suc k) xs) z → R (get_or xs k d) z
  after-at [] k d z o h m = absurd (omega arith)
  after-at (y ∷ ys) zero d z o h m = all-has (R y) ys z o.0 m
  after-at (y ∷ ys) (suc k) d z o h m = after-at ys k d z o.1 (omega arith) m

  about : (xs : List X) (k : ℕ) (d z : X) → k < length xs → Has xs z → Has (take k xs) z ⊎ ((z ≡ get_or xs k d) ⊎ Has (drop (suc k) xs) z)
  about [] k d z h m = absurd (omega arith)
  about (y ∷ ys) zero d z h (inl e) = inr (inl e)
  about (y ∷ ys) zero d z h (inr m) = inr (inr m)
  about (y ∷ ys) (suc k) d z h (inl e) = inl (inl e)
  about (y ∷ ys) (suc k) d z h (inr m) = ⊎_elim (λ i. inl (inr i)) (λ i. inr i) (about ys k d z (omega arith) m)

  first-dropped : (xs : List X) (k : ℕ) (d : X) → k < length xs → Has (drop k xs) (get_or xs k d)
  first-dropped [] k d h = absurd (omega arith)
  first-dropped (y ∷ ys) zero d h = inl refl
  first-dropped (y ∷ ys) (suc k) d h = first-dropped ys k d (omega arith)

  dropped : (xs : List X) (k : ℕ) (d z : X) → Has (drop k xs) z → (z ≡ get_or xs k d) ⊎ Has (drop (suc k) xs) z
  dropped [] zero d z h = absurd h
  dropped [] (suc k) d z h = absurd h
  dropped (y ∷ ys) zero d z h = h
  dropped (y ∷ ys) (suc k) d z h = dropped ys k d z h

  none-dropped : (xs : List X) (k : ℕ) (z : X) → length xs ≤ k → Has (drop k xs) z → ⊥
  none-dropped [] zero z h m = m
  none-dropped [] (suc k) z h m = m
  none-dropped (y ∷ ys) zero z h m = absurd (omega arith)
  none-dropped (y ∷ ys) (suc k) z h m = none-dropped ys k z (omega arith) m

-- ---- the instance after an instance is the next one of the list

module _ (D : ℕ) (t : Table) (is : IsTable D t) (chunk : Chunk) (xs : List Instance) (original : IsOriginal t chunk xs) where
  predicted-in : (z : Instance) → Has xs z → Predicted t chunk z
  predicted-in z h = (original.has z).0 (contains-from-has xs z h)

  in-list : (z : Instance) → Predicted t chunk z → Has xs z
  in-list z p = has-from-contains xs z ((original.has z).1 p)

  later : (k : ℕ) (d y : Instance) → k < length xs → Predicted t chunk y → Precedes t (get_or xs k d) y → Has (drop (suc k) xs) y
  later k d y h p l = ⊎_elim
      (λ m. absurd (not-back (original_key t y) (original_key t (get_or xs k d)) (before-at (Precedes t) xs k d y original.ordered h m) l))
      (λ m. ⊎_elim (λ e. absurd (not-itself (original_key t y) (subst (λ (z : Instance). Precedes t z y) (sym e) l))) (λ i. i) m)
      (about (Precedes t) xs k d y h (in-list y p))

  pub next-at : (k : ℕ) (x y : Instance) → k < length xs → x ≡ get_or xs k x → IsSuccessor t chunk x y → suc k < length xs → y ≡ get_or xs (suc k) y
  next-at k x y h at s more = ⊎_elim (λ e. sym e) (λ l. absurd (never l s.is)) (s.next v (predicted-in v (item (Precedes t) xs (suc k) y more)) after)
    where
      v : Instance
      v = get_or xs (suc k) y

      after : Precedes t x (get_or xs (suc k) y)
      after = subst (λ (z : Instance). Precedes t z (get_or xs (suc k) y)) (sym at) (after-at (Precedes t) xs k x (get_or xs (suc k) y) original.ordered h (first-dropped (Precedes t) xs (suc k) y more))

      never : Precedes t y (get_or xs (suc k) y) → Predicted t chunk y ⊎ (y ≡ opening_at t (chunk.first +ℤ chunk.turns)) → ⊥
      never l (inl good) = ⊎_elim
          (λ e. not-itself (original_key t y) (subst (λ (z : Instance). Precedes t y z) (sym e) l))
          (λ m. not-back (original_key t y) (original_key t (get_or xs (suc k) y)) l (after-at (Precedes t) xs (suc k) y y original.ordered more m))
          (dropped (Precedes t) xs (suc k) y y (later k x y h good (subst (λ (z : Instance). Precedes t z y) at s.after)))
      never l (inr e) = not-back (original_key t y) (original_key t (get_or xs (suc k) y)) l
          (subst (λ (z : Instance). Precedes t (get_or xs (suc k) y) z) (sym e) (opening-last D t is chunk (get_or xs (suc k) y) (predicted-in (get_or xs (suc k) y) (item (Precedes t) xs (suc k) y more))))

  pub last-at : (k : ℕ) (x y : Instance) → k < length xs → x ≡ get_or xs k x → IsSuccessor t chunk x y → length xs ≤ suc k → y ≡ opening_at t (chunk.first +ℤ chunk.turns)
  last-at k x y h at s past = ⊎_elim
      (λ good. absurd (none-dropped (Precedes t) xs (suc k) y past (later k x y h good (subst (λ (z : Instance). Precedes t z y) at s.after))))
      (λ e. e) s.is

  pub first-at : pos 1 ≤ℤ chunk.turns → 0 < length xs → opening_at t chunk.first ≡ get_or xs 0 (opening_at t chunk.first)
  first-at some h = ⊎_elim (λ e. sym e)
      (λ l. ⊎_elim (λ m. absurd m) (λ m. ⊎_elim (λ e. e) (λ i. absurd (not-back (original_key t (opening_at t chunk.first)) (original_key t (get_or xs 0 (opening_at t chunk.first))) l (after-at (Precedes t) xs 0 (opening_at t chunk.first) (opening_at t chunk.first) original.ordered h i))) m)
      (about (Precedes t) xs 0 (opening_at t chunk.first) (opening_at t chunk.first) h (in-list (opening_at t chunk.first) (opening-predicted D t is chunk chunk.first (omega (arith, ints)) (omega (arith, ints, some))))))
      (opening-first D t is chunk (get_or xs 0 (opening_at t chunk.first)) (predicted-in (get_or xs 0 (opening_at t chunk.first)) (item (Precedes t) xs 0 (opening_at t chunk.first) h)))

  pub some-there : pos 1 ≤ℤ chunk.turns → length xs ≤ 0 → ⊥
  some-there some h = none-dropped (Precedes t) xs 0 (opening_at t chunk.first) h (in-list (opening_at t chunk.first) (opening-predicted D t is chunk chunk.first (omega (arith, ints)) (omega (arith, ints, some))))

-- ---- the walk

-- so many instances were seen: their places in the block are noted, and the walk is at the next one
pub record IsAt (t : Table) (chunk : Chunk) (s : Schedule) (rank : ℕ) (xs : List Instance) (k : ℕ) (x : Instance) (points : List (ArrayVec ℤ)) : Type 0 where
  pub here : k < length xs → x ≡ get_or xs k x
  pub past : length xs ≤ k → x ≡ opening_at t (chunk.first +ℤ chunk.turns)
  pub has : (z : List ℤ) → Has (numbers points) z ↔ ((y : Instance) × Has (take k xs) y × HasPlace t s rank y z)

module _ (D : ℕ) (t : Table) (is : IsTable D t) (chunk : Chunk) (some : pos 1 ≤ℤ chunk.turns) (s : Schedule) (rank : ℕ) (xs : List Instance) (original : IsOriginal t chunk xs) where
  pub at-start : IsAt t chunk s rank xs 0 (opening_at t chunk.first) []
  at-start = record { here = first-at D t is chunk xs original some; past = λ h. absurd (some-there D t is chunk xs original some h); has = λ z. (λ h. absurd h, λ h. absurd h.1) }

  -- an instance in the chunk's turns is one of the list
  pub at-inside : (k : ℕ) (x : Instance) (points : List (ArrayVec ℤ)) → IsAt t chunk s rank xs k x points → counter x.at 0 <ℤ (chunk.first +ℤ chunk.turns) → k < length xs
  at-inside k x points at below = ⊎_elim (λ l. l) (λ l. absurd (let e = ap (λ (y : Instance). counter y.at 0) (at.past l) ∙ opening-turn D t is chunk (chunk.first +ℤ chunk.turns) in omega (arith, ints, e, below))) (cases_lt k (length xs))

  pub at-predicted : (k : ℕ) (x : Instance) (points : List (ArrayVec ℤ)) → IsAt t chunk s rank xs k x points → counter x.at 0 <ℤ (chunk.first +ℤ chunk.turns) → Predicted t chunk x
  at-predicted k x points at below =
      let l = at-inside k x points at below in
      subst (Predicted t chunk) (sym (at.here l)) (predicted-in D t is chunk xs original (get_or xs k x) (item (Precedes t) xs k x l))

  pub at-next : (k : ℕ) (x y : Instance) (points more : List (ArrayVec ℤ)) → IsAt t chunk s rank xs k x points → counter x.at 0 <ℤ (chunk.first +ℤ chunk.turns) → Notes t s rank x points more → IsSuccessor t chunk x y → IsAt t chunk s rank xs (k + 1) y more
  at-next k x y points more at below notes next =
      let l = at-inside k x points at below in
      let step : suc k ≡ k + 1 = omega arith in
      let taken = take_more xs k x l ∙ ap (λ (z : Instance). take k xs ++ z ∷ []) (sym (at.here l)) in
      record {
        here = λ h. subst (λ (j : ℕ). y ≡ get_or xs j y) step (next-at D t is chunk xs original k x y l (at.here l) next (omega (arith, h)));
        past = λ h. last-at D t is chunk xs original k x y l (at.here l) next (omega (arith, h));
        has = λ z. (
          λ h. ⊎_elim
              (λ m. let a = (at.has z).0 m in (a.0, subst (λ (ys : List Instance). Has ys a.0) (sym taken) (has-left (take k xs) (x ∷ []) a.0 a.1), a.2))
              (λ m. (x, subst (λ (ys : List Instance). Has ys x) (sym taken) (has-right (take k xs) (x ∷ []) x (inl refl)), m))
              ((notes z).0 h),
          λ h. (notes z).1 (⊎_elim
              (λ m. inl ((at.has z).1 (h.0, m, h.2)))
              (λ m. inr (only h.0 z h.2 m))
              (has-cases (take k xs) (x ∷ []) h.0 (subst (λ (ys : List Instance). Has ys h.0) taken h.1))),
        );
      }
    where
      only : (w : Instance) (z : List ℤ) → HasPlace t s rank w z → Has (x ∷ []) w → HasPlace t s rank x z
      only w z p (inl e) = subst (λ (v : Instance). HasPlace t s rank v z) e p
      only w z p (inr h) = absurd h

  -- an instance past the chunk's turns comes once all were seen
  pub at-over : (k : ℕ) (x : Instance) (points : List (ArrayVec ℤ)) → IsAt t chunk s rank xs k x points → (chunk.first +ℤ chunk.turns) ≤ℤ counter x.at 0 → length xs ≤ k
  at-over k x points at over = ⊎_elim
      (λ l. let p = predicted-in D t is chunk xs original (get_or xs k x) (item (Precedes t) xs k x l) in
      absurd (let b = below-turn x (subst (Predicted t chunk) (sym (at.here l)) p) in omega (arith, ints, b, over)))
      (λ l. l) (cases_lt k (length xs))
    where
      below-turn : (y : Instance) → Predicted t chunk y → counter y.at 0 <ℤ (chunk.first +ℤ chunk.turns)
      below-turn y p = p.turn.below

  pub at-end : (k : ℕ) (x : Instance) (points : List (ArrayVec ℤ)) → length xs ≤ k → IsAt t chunk s rank xs k x points → (z : List ℤ) → Has (numbers points) z ↔ IsPlaceOf (record { table = t; schedule = s; chunk = chunk }) rank z
  at-end k x points end at z = (
    λ h.
        let a = (at.has z).0 h in
        record { at = a.0; predicted = predicted-in D t is chunk xs original a.0 (subst (λ (ys : List Instance). Has ys a.0) (take_all k xs end) a.1); block = a.2.block; there = a.2.there },
    λ p. (at.has z).1 (p.at, subst (λ (ys : List Instance). Has ys p.at) (sym (take_all k xs end)) (in-list D t is chunk xs original p.at p.predicted), record { block = p.block; there = p.there }),
  )

-- the counters of a predicted instance of a launched chunk can rise
pub predicted-turns : (D : ℕ) (t : Table) → IsTable D t → (chunk : Chunk) → IsLaunch t chunk → (x : Instance) → Predicted t chunk x → CanTurn x.at
predicted-turns D t is chunk launch x p k =
    let high = (launched_counters D t launch.words chunk launch.instances is launch.first launch.some launch.launched x p k).1 in
    let far = launch.far in
    omega (arith, ints, high, far)

-- a launched chunk has at most so many instances
pub few-instances : (t : Table) (words : ℤ) (chunk : Chunk) (instances : ℕ) (l : IsLaunched t words chunk instances) → length l.list ≤ 65536
few-instances t words chunk instances l = ⊎_elim (λ h. absurd (more h)) (λ h. h) (cases_lt 65536 (length l.list))
  where
    parts : (xs : List Instance) (k : ℕ) (d : Instance) → k < length xs → xs ≡ take k xs ++ get_or xs k d ∷ drop (suc k) xs
    parts [] k d h = absurd (omega arith)
    parts (y ∷ ys) zero d h = refl
    parts (y ∷ ys) (suc k) d h = ap (λ zs. y ∷ zs) (parts ys k d (omega arith))

    taken : (xs : List Instance) (k : ℕ) → k ≤ length xs → length (take k xs) ≡ k
    taken xs zero h = refl
    taken [] (suc k) h = absurd (omega arith)
    taken (y ∷ ys) (suc k) h = ap suc (taken ys k (omega arith))

    more : 65536 < length l.list → ⊥
    more h = at 65536 refl h
      where
        d : Instance
        d = record { block = 0; at = [] }

        at : (k : ℕ) → k ≡ 65536 → k < length l.list → ⊥
        at k e h =
            let few = taken l.list k (omega (arith, h)) in
            let f = l.passes (take k l.list) (get_or l.list k d) (drop (suc k) l.list) (parts l.list k d h) in
            let g = many-instances t words (take k l.list) (get_or l.list k d) (omega (arith, few, e)) in
            let w : Some Many ≡ None = sym g ∙ f in cc

-- ---- one place more

numbers-push : (ps : List (ArrayVec ℤ)) (p : ArrayVec ℤ) → numbers (ps ++ p ∷ []) ≡ numbers ps ++ p.items ∷ []
numbers-push [] p = refl
numbers-push (q ∷ ps) p = ap (λ zs. q.items ∷ zs) (numbers-push ps p)

pub noted : (t : Table) (s : Schedule) (rank : ℕ) (x : Instance) (old new : List (ArrayVec ℤ)) (p : ArrayVec ℤ) → new ≡ old ++ p ∷ [] → x.block ≡ rank → p.items ≡ place s (padded t x) → Notes t s rank x old new
noted t s rank x old new p e block there z =
    let same = ap numbers e ∙ numbers-push old p in (
      λ h. ⊎_elim (λ m. inl m) (λ m. inr (only m)) (has-cases (numbers old) (p.items ∷ []) z (subst (λ zs. Has zs z) same h)),
      λ h. subst (λ zs. Has zs z) (sym same) (⊎_elim (λ m. has-left (numbers old) (p.items ∷ []) z m) (λ m. has-right (numbers old) (p.items ∷ []) z (inl (sym m.there ∙ sym there))) h),
    )
  where
    only : Has (p.items ∷ []) z → HasPlace t s rank x z
    only (inl f) = record { block = block; there = sym there ∙ sym f }
    only (inr h) = absurd h
