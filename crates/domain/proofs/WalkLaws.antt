-- The instance after an instance is the next predicted one.
use Rattle.std.proofs.Common.{◌≡◌, refl, sym, ap, ap₂, subst, ◌∙◌, ℕ, zero, suc, ◌<◌, ◌≤◌, ◌+◌, ◌-◌, ℤ, pos, ◌+ℤ◌, ◌≤ℤ◌, ◌<ℤ◌, Bool, true, false, List, Option, Some, None, length, set, replicate, ◌⊎◌, inl, inr, ⊎_elim, nat_lt, arith}
use Rattle.std.specs.Prelude.{int_lt, unwrap_or, not, ◌&&◌, if◌then◌else◌}
use Rattle.std.proofs.lemmas.Int.{ints}
use Rattle.std.proofs.lemmas.Bool.{cases_lt, and_parts, not-true}
use Rattle.std.proofs.lemmas.Bool.Decides.{nat_tests}
use Rattle.plain_lemmas.proofs.IntegerLaws.{int_lt-true, int_lt-false}
use Rattle.plain_lemmas.proofs.OrderLaws.{cases-int_cmp}
use Rattle.nest_lang.specs.declared.tree.Part.{Part}
use Rattle.nest_lang.specs.declared.tree.Part.TheVariants.{Head, Pre, Post}
use Rattle.domain.specs.declared.chunk.Chunk.{Chunk}
use Rattle.domain.specs.Tables.{Table, depth, block_at, repeats, rank_of, cut, trip, counters, counters_by, turning, is_post, IsTable}
use Rattle.domain.specs.Instances.{Instance, instance, block_of, counter, turns_of, place, IsInstance, InTurn, Tested, Predicted, opening_at}
use Rattle.domain.specs.Steps.{turned, left_by, turn_by, head_rank, next_turn, after_loop, ends_loop, next_by, next}
use Rattle.domain.proofs.PointLaws.{length-cut, cut-before, cut-after, trip-cut}
use Rattle.domain.proofs.PlaceLaws.{place-counter, place-turns, place-rest}
use Rattle.domain.proofs.SpotLaws.{Spot, Agree, Before, three, before-trans, before-right, before-left, agree-sym, by-text, between}
use Rattle.domain.proofs.RankLaws.{Stands, stands, has-rank, absent, Kind, AtHead, AtPre, AtPost, kind, text_at, text-stands, ranks-rise}
use Rattle.domain.proofs.WithinLaws.{counters-of, turning-of, turns-trip, turns-none, trip-same, Begins, head-most, places-up, Within, Outer, Last, Inner, Test, within}
use Rattle.domain.proofs.StepLaws.{next_turn-outermost, next_turn-inner}
use Rattle.domain.proofs.GapLaws.{post, end, At, end-counter, end-turns, end-rest, next-gap, turn-none, leave-none}
use Rattle.domain.proofs.LeadLaws.{length-turned, turned-before, turned-here, turned-after, cut-zeros, head-next, pre-next, First, FirstHead, FirstPre, FirstInner, first, plain-place, enters, entered, turned-turn, Leads, turn-leads}

module _ (D : ℕ) (t : Table) (is : IsTable D t) (chunk : Chunk) where
  abbrev E : ℕ → List ℤ → Spot
  E n at = end D t is chunk n at

  abbrev L : Spot → Instance → Type 0
  L a y = Leads D t is chunk a y

  fewer : (n m : ℕ) (at : List ℤ) → m ≤ n → InTurn t chunk n at → InTurn t chunk m at
  fewer n m at l turn = record { from = turn.from; below = turn.below; inner = λ j f o. turn.inner j f (omega arith) }

  -- a turn of the first n loops is one at each point that begins with its counters
  same-turn : (n : ℕ) (at other : List ℤ) → 1 ≤ n → length other ≡ length at → ((j : ℕ) → j < n → counter other j ≡ counter at j) → InTurn t chunk n at → InTurn t chunk n other
  same-turn n at other some size same turn = record {
    from = subst (λ (v : ℤ). chunk.first ≤ℤ v) (sym (same 0 some)) turn.from;
    below = subst (λ (v : ℤ). v <ℤ (chunk.first +ℤ chunk.turns)) (sym (same 0 some)) turn.below;
    inner = λ j l m. let b = turn.inner j l m in
        let e = trip-same t j other at size (λ i o. same i (omega arith)) in
        (subst (λ (v : ℤ). pos 0 ≤ℤ v) (sym (same j m)) b.0, subst (λ (v : ℤ). counter other j <ℤ v) (sym e) (subst (λ (v : ℤ). v <ℤ trip t j at) (sym (same j m)) b.1));
  }

  -- ---- the outermost loop

  outermost-leads : (at : List ℤ) → 0 < D → length at ≡ D → InTurn t chunk 1 at → L (E 1 at) (instance 0 (turned 0 at))
  outermost-leads at deep size turn = by (first D t is)
    where
      none : (z : Instance) → Predicted t chunk z → text_at D t is z.block < text_at D t is 0 → ⊥
      none z p l = let m = ranks-rise D t is z.block 0 p.is.block l in omega arith

      long : length (turned 0 at) ≡ D
      long = length-turned 0 at ∙ size

      good : (InTurn t chunk 1 (turned 0 at) → Predicted t chunk (instance 0 (turned 0 at))) → Predicted t chunk (instance 0 (turned 0 at)) ⊎ (instance 0 (turned 0 at) ≡ opening_at t (chunk.first +ℤ chunk.turns))
      good go =
          cases-int_cmp (counter at 0 +ℤ pos 1) (chunk.first +ℤ chunk.turns)
          (λ less. inl (go (turned-turn D t is chunk 0 at size deep turn (λ e. less) (λ l. absurd (omega arith)))))
          (λ e. inr (ap₂ (λ (xs : List ℤ) (v : ℤ). instance 0 (set xs 0 v)) (cut-zeros at ∙ ap (λ (n : ℕ). replicate n (pos 0)) (size ∙ sym is.deep)) e))
          (λ more. absurd (let b = turn.below in omega (arith, ints)))

      zeros : (j : ℕ) → 1 ≤ j → counter (turned 0 at) j ≡ pos 0
      zeros j l = turned-after 0 at j (omega arith)

      led : 0 < length t.blocks → IsInstance t (instance 0 (turned 0 at)) × (is_post (block_at t 0).part ≡ false) → (InTurn t chunk 1 (turned 0 at) → Predicted t chunk (instance 0 (turned 0 at))) → L (E 1 at) (instance 0 (turned 0 at))
      led inside i go = turn-leads D t is chunk 0 at deep size turn 0 inside (plain-place D t is (instance 0 (turned 0 at)) i.0 i.1) (λ z p b h l. none z p l) (good go)

      by : First D t is → L (E 1 at) (instance 0 (turned 0 at))
      by (FirstHead here while) =
          let c : counters t (block_at t 0) ≡ 1 = counters-of t Head 1 0 here ∙ ap (λ (w : Bool). counters_by Head w 1) (let z : 1 - 1 ≡ 0 = omega arith in ap (repeats t) z ∙ while) in
          let o : turning (block_at t 0) ≡ 1 = let f = turning-of t Head 1 0 here in omega arith in
          let i : IsInstance t (instance 0 (turned 0 at)) = record { block = here.inside; size = long ∙ sym is.deep; rest = λ j l. zeros j (omega arith) } in
          led here.inside (i, ap is_post here.part-is) (λ turns. record { is = i; turn = subst (λ (m : ℕ). InTurn t chunk m (turned 0 at)) (sym o) turns; test = λ l. absurd (omega arith) })
      by (FirstPre here) = led here.inside (enters D t is 1 0 (turned 0 at) long zeros (inl here)) (λ turns. entered D t is chunk 1 0 (turned 0 at) (omega arith) long turns zeros (inl here))
      by (FirstInner here more) = led here.inside (enters D t is 1 0 (turned 0 at) long zeros (inr here)) (λ turns. entered D t is chunk 1 0 (turned 0 at) (omega arith) long turns zeros (inr here))

  -- ---- behind a loop

  leave-leads : (k : ℕ) (at : List ℤ) (a : Spot) → 1 ≤ k → k < D → length at ≡ D → InTurn t chunk k at → Before D a (E k at) → ((z : Instance) → Predicted t chunk z → Before D a (At D t is chunk z) → Before D (At D t is chunk z) (E k at) → ⊥)
      → L (E k at) (next_turn t (k - 1) at) → L a (after_loop t k at)
  leave-leads k at a some deep size turn before gap outer = by (rank_of t Post k) refl
    where
      present : (r : ℕ) → Stands t Post k r → L a (instance r (cut k at))
      present r s = record {
        after = before-right D a (E k at) (At D t is chunk (instance r (cut k at))) same (sym text) before;
        gap = λ z p l h. gap z p l (before-right D (At D t is chunk z) (At D t is chunk (instance r (cut k at))) (E k at) (agree-sym D (place t (post k) at) (place t (block_at t r) (cut k at)) same) text h);
        inside = s.inside;
        good = inl (record {
          is = record { block = s.inside; size = length-cut k at ∙ size ∙ sym is.deep; rest = λ j l. cut-after k at j (omega (arith, c)) };
          turn = subst (λ (m : ℕ). InTurn t chunk m (cut k at)) (sym o) (same-turn k at (cut k at) some (length-cut k at) (cut-before k at) turn);
          test = λ l. absurd (omega (arith, c, o));
        });
      }
        where
          c : counters t (block_at t r) ≡ k
          c = counters-of t Post k r s

          o : turning (block_at t r) ≡ k
          o = turning-of t Post k r s

          text : text_at D t is r ≡ D + D + D + 3 - k
          text = text-stands D t is Post k r s

          same : Agree D (place t (post k) at) (place t (block_at t r) (cut k at))
          same j l =
              ⊎_elim (λ m. end-counter D t is chunk k at j m ∙ sym (place-counter t (block_at t r) (cut k at) j (omega (arith, c)) ∙ cut-before k at j m))
              (λ m. ⊎_elim (λ n. end-rest D t is chunk k at j n ∙ sym (place-rest t (block_at t r) (cut k at) j (omega (arith, c))))
              (λ n. let e : k ≡ j = omega arith in
              subst (λ (i : ℕ). place t (post k) at i ≡ place t (block_at t r) (cut k at) i) e (end-turns D t is chunk k at ∙ sym (place-turns t (block_at t r) (cut k at) k s.part-is (sym c) ∙ ap turns_of (trip-cut t k k at (omega arith)))))
              (cases_lt k j))
              (cases_lt j k)

      missing : rank_of t Post k ≡ None → L a (next_turn t (k - 1) at)
      missing e = record {
        after = before-trans D a (E k at) (At D t is chunk (next_turn t (k - 1) at)) before outer.after;
        gap = λ z p l h. ⊎_elim (λ m. gap z p l m) (λ m. ⊎_elim (λ n. not-there z p n.1) (λ n. outer.gap z p n h) m) (three D (At D t is chunk z) (E k at));
        inside = outer.inside;
        good = outer.good;
      }
        where
          not-there : (z : Instance) → Predicted t chunk z → text_at D t is z.block ≡ D + D + D + 3 - k → ⊥
          not-there z p f = by-kind (kind D t is z.block p.is.block)
            where
              by-kind : Kind D t is z.block → ⊥
              by-kind (AtHead level from to here text) = omega arith
              by-kind (AtPre level from to here text) = omega arith
              by-kind (AtPost level from to here text) = let g : level ≡ k = omega arith in absent t Post k z.block e (subst (λ (n : ℕ). Stands t Post n z.block) g here)

      by : (o : Option ℕ) → rank_of t Post k ≡ o → L a (left_by o (cut k at) (next_turn t (k - 1) at))
      by None e = missing e
      by (Some r) e = present r (stands t Post k r e)

  -- ---- an inner loop

  inner-leads : (k : ℕ) (at : List ℤ) → 1 ≤ k → k < D → length at ≡ D → InTurn t chunk (suc k) at → L (E k at) (next_turn t (k - 1) at)
      → L (E (suc k) at) (turn_by (repeats t k) (int_lt (counter at k +ℤ pos 1) (trip t k at)) (head_rank t (k + 1)) (turned k at) (after_loop t k at))
  inner-leads k at some deep size turn outer = by (repeats t k) (int_lt (counter at k +ℤ pos 1) (trip t k at)) refl refl
    where
      found : (h : ℕ) × (rank_of t Head (suc k) ≡ Some h)
      found = has-rank t Head (suc k) (is.heads (suc k) (omega arith) (omega arith))

      h : ℕ
      h = found.0

      there : Stands t Head (suc k) found.0
      there = stands t Head (suc k) found.0 found.1

      head-is : head_rank t (k + 1) ≡ found.0
      head-is = let e : k + 1 ≡ suc k = omega arith in ap (λ (n : ℕ). unwrap_or (rank_of t Head n) 0) e ∙ ap (λ (o : Option ℕ). unwrap_or o 0) found.1

      text : text_at D t is found.0 ≡ suc k + suc k
      text = text-stands D t is Head (suc k) found.0 there

      bounds : (pos 0 ≤ℤ counter at k) × (counter at k <ℤ trip t k at)
      bounds = turn.inner k some (omega arith)

      long : length (turned k at) ≡ D
      long = length-turned k at ∙ size

      same-trip : trip t k (turned k at) ≡ trip t k at
      same-trip = trip-same t k (turned k at) at (length-turned k at) (turned-before k at)

      while : repeats t k ≡ true → L (E (suc k) at) (instance found.0 (turned k at))
      while e =
          turn-leads D t is chunk k at deep size turn found.0 there.inside (plain-place D t is (instance found.0 (turned k at)) i (ap is_post there.part-is))
          (λ z p b f l. turn-none D t is chunk k at some size turn z p b f (inl (omega (arith, text))))
          (inl (record { is = i; turn = subst (λ (m : ℕ). InTurn t chunk m (turned k at)) (sym o) (same-turn k at (turned k at) some (length-turned k at) (turned-before k at) (fewer (suc k) k at (omega arith) turn)); test = λ l. subst (λ (m : ℕ). Tested (counter (turned k at) m) (trip t m (turned k at))) (sym o) tested }))
        where
          c : counters t (block_at t found.0) ≡ suc k
          c = counters-of t Head (suc k) found.0 there ∙ ap (λ (w : Bool). counters_by Head w (suc k)) (let z : suc k - 1 ≡ k = omega arith in ap (repeats t) z ∙ e)

          o : turning (block_at t found.0) ≡ k
          o = let f = turning-of t Head (suc k) found.0 there in omega arith

          i : IsInstance t (instance found.0 (turned k at))
          i = record { block = there.inside; size = long ∙ sym is.deep; rest = λ j l. turned-after k at j (let d = c in omega arith) }

          tested : Tested (counter (turned k at) k) (trip t k (turned k at))
          tested = let f = turned-here k at (omega arith) in let g = same-trip in let b = bounds.0 in let d = bounds.1 in inr (omega (arith, ints), omega (arith, ints))

      more : repeats t k ≡ false → int_lt (counter at k +ℤ pos 1) (trip t k at) ≡ true → L (E (suc k) at) (instance (found.0 + 1) (turned k at))
      more e f =
          let next = head-next D t is (suc k) found.0 (omega arith) (omega arith) there in
          let zeros : (j : ℕ) → suc k ≤ j → counter (turned k at) j ≡ pos 0 = λ j l. turned-after k at j (omega arith) in
          let i = enters D t is (suc k) (found.0 + 1) (turned k at) long zeros next.1 in
          turn-leads D t is chunk k at deep size turn (found.0 + 1) next.0 (plain-place D t is (instance (found.0 + 1) (turned k at)) i.0 i.1)
          (λ z p b g l. turn-none D t is chunk k at some size turn z p b g (inr (low z p l, e)))
          (inl (entered D t is chunk (suc k) (found.0 + 1) (turned k at) (omega arith) long (turned-turn D t is chunk k at size deep turn (λ z. absurd (omega arith)) (λ l. int_lt-true (counter at k +ℤ pos 1) (trip t k at) f)) zeros next.1))
        where
          low : (z : Instance) → Predicted t chunk z → text_at D t is z.block < text_at D t is (found.0 + 1) → text_at D t is z.block ≤ k + k + 2
          low z p l =
              let m = ranks-rise D t is z.block (found.0 + 1) p.is.block l in
              let g = text in
              ⊎_elim (λ n. let r = is.rising z.block found.0 n there.inside in omega arith) (λ n. let s : z.block ≡ found.0 = omega arith in let q = ap (text_at D t is) s in omega arith) (cases_lt z.block found.0)

      last : repeats t k ≡ false → int_lt (counter at k +ℤ pos 1) (trip t k at) ≡ false → L (E (suc k) at) (after_loop t k at)
      last e f =
          leave-leads k at (E (suc k) at) some deep size (fewer (suc k) k at (omega arith) turn)
          (inl (record { index = k; inside = deep; same = same; less = rise }))
          (next-gap D t is chunk k at deep size turn (E k at) same here (λ j l. end-rest D t is chunk k at j l) (λ z p b g l. leave-none D t is chunk k at some size turn z p b g e past l))
          outer
        where
          past : trip t k at ≤ℤ (counter at k +ℤ pos 1)
          past = int_lt-false (counter at k +ℤ pos 1) (trip t k at) f

          same : Agree k (place t (post (suc k)) at) (place t (post k) at)
          same j l = end-counter D t is chunk (suc k) at j (omega arith) ∙ sym (end-counter D t is chunk k at j l)

          here : place t (post k) at k ≡ counter at k +ℤ pos 1
          here = let b = bounds.0 in let d = bounds.1 in let q = past in end-turns D t is chunk k at ∙ turns-trip (trip t k at) (omega (arith, ints)) ∙ omega (arith, ints)

          rise : place t (post (suc k)) at k <ℤ place t (post k) at k
          rise = let g = here in let q = end-counter D t is chunk (suc k) at k (omega arith) in omega (arith, ints)

      by : (w m : Bool) → repeats t k ≡ w → int_lt (counter at k +ℤ pos 1) (trip t k at) ≡ m → L (E (suc k) at) (turn_by w m (head_rank t (k + 1)) (turned k at) (after_loop t k at))
      by true m e f = subst (λ (n : ℕ). L (E (suc k) at) (instance n (turned k at))) (sym head-is) (while e)
      by false true e f = subst (λ (n : ℕ). L (E (suc k) at) (instance (n + 1) (turned k at))) (sym head-is) (more e f)
      by false false e f = last e f

  pub leads-turn : (k : ℕ) (at : List ℤ) → k < D → length at ≡ D → InTurn t chunk (suc k) at → L (E (suc k) at) (next_turn t k at)
  leads-turn zero at deep size turn = subst (L (E 1 at)) (sym (next_turn-outermost t 0 at refl)) (outermost-leads at deep size turn)
  leads-turn (suc k) at deep size turn =
      let back : k ≡ suc k - 1 = omega arith in
      subst (L (E (suc (suc k)) at)) (sym (next_turn-inner t (suc k) at (omega arith)))
      (inner-leads (suc k) at (omega arith) deep size turn (subst (λ (n : ℕ). L (E (suc k) at) (next_turn t n at)) back (leads-turn k at (omega arith) size (fewer (suc (suc k)) (suc k) at (omega arith) turn))))

  -- ---- from an instance

  -- the next block at the same point
  ahead-leads : (x : Instance) → Predicted t chunk x → is_post (block_of t x).part ≡ false → x.block + 1 < length t.blocks → IsInstance t (instance (x.block + 1) x.at) × (is_post (block_at t (x.block + 1)).part ≡ false) → Predicted t chunk (instance (x.block + 1) x.at)
      → L (At D t is chunk x) (instance (x.block + 1) x.at)
  ahead-leads x p plain inside i good = record {
    after = inr (same, is.rising x.block (x.block + 1) (omega arith) inside);
    gap = λ z q l h. none z q l h;
    inside = inside;
    good = inl good;
  }
    where
      y : Instance
      y = instance (x.block + 1) x.at

      same : Agree D (place t (block_of t x) x.at) (place t (block_at t (x.block + 1)) x.at)
      same j l = plain-place D t is x p.is plain j ∙ sym (plain-place D t is (instance (x.block + 1) x.at) i.0 i.1 j)

      none : (z : Instance) → Predicted t chunk z → Before D (At D t is chunk x) (At D t is chunk z) → Before D (At D t is chunk z) (At D t is chunk (instance (x.block + 1) x.at)) → ⊥
      none z q l h =
          let there = between D D (At D t is chunk x) (At D t is chunk z) (At D t is chunk (instance (x.block + 1) x.at)) (omega arith) same l h in
          let back : Agree D (place t (block_of t z) z.at) (place t (block_at t (x.block + 1)) x.at) = λ j m. sym (there j m) ∙ same j m in
          let low = ranks-rise D t is x.block z.block p.is.block (by-text D (At D t is chunk x) (At D t is chunk z) there l) in
          let high = ranks-rise D t is z.block (x.block + 1) q.is.block (by-text D (At D t is chunk z) (At D t is chunk (instance (x.block + 1) x.at)) back h) in
          omega arith

  leads-left : (a b : Spot) (y : Instance) → Agree D a.place b.place → a.text ≡ b.text → L b y → L a y
  leads-left a b y same e lead = record {
    after = before-left D a b (At D t is chunk y) same e lead.after;
    gap = λ z p l h. lead.gap z p (before-left D b a (At D t is chunk z) (agree-sym D a.place b.place same) (sym e) l) h;
    inside = lead.inside;
    good = lead.good;
  }

  module _ (x : Instance) (p : Predicted t chunk x) where
    size : length x.at ≡ D
    size = p.is.size ∙ is.deep

    turn-of : (part : Part) (level n : ℕ) → Stands t part level x.block → turning (block_of t x) ≡ n → InTurn t chunk n x.at
    turn-of part level n s e = subst (λ (m : ℕ). InTurn t chunk m x.at) e p.turn

    from-post : (level : ℕ) → 1 ≤ level → level < D → Stands t Post level x.block → L (At D t is chunk x) (next_turn t (level - 1) x.at)
    from-post level from to s =
        let e : suc (level - 1) ≡ level = omega arith in
        let c = counters-of t Post level x.block s in
        leads-left (At D t is chunk x) (E level x.at) (next_turn t (level - 1) x.at)
        (λ j l. ⊎_elim (λ m. place-counter t (block_of t x) x.at j (omega arith) ∙ sym (end-counter D t is chunk level x.at j m))
        (λ m. ⊎_elim (λ n. place-rest t (block_of t x) x.at j (omega arith) ∙ sym (end-rest D t is chunk level x.at j n))
        (λ n. let f : level ≡ j = omega arith in subst (λ (i : ℕ). place t (block_of t x) x.at i ≡ place t (post level) x.at i) f (place-turns t (block_of t x) x.at level s.part-is (sym c) ∙ sym (end-turns D t is chunk level x.at)))
        (cases_lt level j))
        (cases_lt j level))
        (text-stands D t is Post level x.block s)
        (subst (λ (n : ℕ). L (E n x.at) (next_turn t (level - 1) x.at)) e
        (leads-turn (level - 1) x.at (omega arith) size (turn-of Post level (suc (level - 1)) s (turning-of t Post level x.block s ∙ sym e))))

    from-body : Stands t Pre D x.block → L (At D t is chunk x) (next_turn t (D - 1) x.at)
    from-body s =
        let some = is.some in
        let e : suc (D - 1) ≡ D = omega arith in
        let c = counters-of t Pre D x.block s in
        let text = text-stands D t is Pre D x.block s in
        let lead = subst (λ (n : ℕ). L (E n x.at) (next_turn t (D - 1) x.at)) e (leads-turn (D - 1) x.at (omega arith) size (turn-of Pre D (suc (D - 1)) s (turning-of t Pre D x.block s ∙ sym e))) in
        let same : Agree D (place t (block_of t x) x.at) (place t (post D) x.at) = λ j l. place-counter t (block_of t x) x.at j (omega arith) ∙ sym (end-counter D t is chunk D x.at j l) in
        record {
          after = before-trans D (At D t is chunk x) (E D x.at) (At D t is chunk (next_turn t (D - 1) x.at)) (inr (same, omega arith)) lead.after;
          gap = λ z q l h. ⊎_elim (λ m. none z q (between D D (At D t is chunk x) (At D t is chunk z) (E D x.at) (omega arith) same l m) same l m text)
              (λ m. ⊎_elim (λ n. two z q (omega (arith, n.1)) text) (λ n. lead.gap z q n h) m) (three D (At D t is chunk z) (E D x.at));
          inside = lead.inside;
          good = lead.good;
        }
      where
        -- no block stands between the innermost statements and the blocks after the loops
        two : (z : Instance) → Predicted t chunk z → (D + D + 1 < text_at D t is z.block) × (text_at D t is z.block ≤ D + D + 3) → text_at D t is x.block ≡ D + D + 1 → ⊥
        two z q h e = by-kind (kind D t is z.block q.is.block)
          where
            low : D + D + 1 < text_at D t is z.block
            low = h.0

            high : text_at D t is z.block ≤ D + D + 3
            high = h.1

            by-kind : Kind D t is z.block → ⊥
            by-kind (AtHead level from to here text) = let l = low in omega arith
            by-kind (AtPre level from to here text) = let l = low in omega arith
            by-kind (AtPost level from to here text) = let l = high in omega arith

        none : (z : Instance) → Predicted t chunk z → Agree D (place t (block_of t x) x.at) (place t (block_of t z) z.at) → Agree D (place t (block_of t x) x.at) (place t (post D) x.at) → Before D (At D t is chunk x) (At D t is chunk z) → Before D (At D t is chunk z) (E D x.at) → text_at D t is x.block ≡ D + D + 1 → ⊥
        none z q there same l m e =
            let low = by-text D (At D t is chunk x) (At D t is chunk z) there l in
            let high = by-text D (At D t is chunk z) (E D x.at) (λ j o. sym (there j o) ∙ same j o) m in
            two z q (omega arith, omega arith) e

    head-zero : (level : ℕ) → Stands t Head level x.block → (j : ℕ) → level ≤ j → counter x.at j ≡ pos 0
    head-zero level s j l = let c = counters-of t Head level x.block s in let most = head-most (repeats t (level - 1)) level in p.is.rest j (omega arith)

    head-plain : (level : ℕ) → Stands t Head level x.block → (j : ℕ) → place t (block_of t x) x.at j ≡ counter x.at j
    head-plain level s j = plain-place D t is x p.is (ap is_post s.part-is) j

    from-head : (level : ℕ) → 1 ≤ level → level ≤ D → Stands t Head level x.block → ((m : ℕ) → 1 ≤ m → level ≡ suc m → counter x.at m <ℤ trip t m x.at) → L (At D t is chunk x) (instance (x.block + 1) x.at)
    from-head level from to s more =
        let next = head-next D t is level x.block from to s in
        ahead-leads x p (ap is_post s.part-is) next.0 (enters D t is level (x.block + 1) x.at size (head-zero level s) next.1) (entered D t is chunk level (x.block + 1) x.at from size turns (head-zero level s) next.1)
      where
        around : InTurn t chunk (turning (block_of t x)) x.at
        around = p.turn

        turns : InTurn t chunk level x.at
        turns = record { from = p.turn.from; below = p.turn.below; inner = inner }
          where
            inner : (j : ℕ) → 1 ≤ j → j < level → (pos 0 ≤ℤ counter x.at j) × (counter x.at j <ℤ trip t j x.at)
            inner j f l =
                ⊎_elim (λ m. p.turn.inner j f m)
                (λ m. let o = turning-of t Head level x.block s in
                let e : level ≡ suc j = omega arith in
                (subst (λ (v : ℤ). pos 0 ≤ℤ v) (head-plain level s j) (places-up D t is chunk x p j f), more j f e))
                (cases_lt j (turning (block_of t x)))

    -- the head of a loop that has no further turn
    from-end : (k : ℕ) → 1 ≤ k → Stands t Head (suc k) x.block → suc k ≤ D → trip t k x.at ≤ℤ counter x.at k → L (At D t is chunk x) (after_loop t k x.at)
    from-end k some s to past =
        leave-leads k x.at (At D t is chunk x) some (omega arith) size turn-k (inr (same, omega (arith, text))) gap
        (subst (λ (n : ℕ). L (E n x.at) (next_turn t (k - 1) x.at)) e (leads-turn (k - 1) x.at (omega arith) size (subst (λ (n : ℕ). InTurn t chunk n x.at) (sym e) turn-k)))
      where
        e : suc (k - 1) ≡ k
        e = omega arith

        text : text_at D t is x.block ≡ suc k + suc k
        text = text-stands D t is Head (suc k) x.block s

        turn-k : InTurn t chunk k x.at
        turn-k = turn-of Head (suc k) k s (let o = turning-of t Head (suc k) x.block s in omega arith)

        begins : Begins D t is chunk k x.at x
        begins j l = head-plain (suc k) s j

        shown : counter x.at k ≡ turns_of (trip t k x.at)
        shown = by (within D t is chunk k x.at some size turn-k x p begins)
          where
            here : place t (block_of t x) x.at k ≡ counter x.at k
            here = head-plain (suc k) s k

            by : Within D t is chunk k x.at x → counter x.at k ≡ turns_of (trip t k x.at)
            by (Outer zeros text_is) = let z = zeros k (omega arith) in let h = here in let q = past in let n = turns-none (trip t k x.at) (omega (arith, ints)) in omega (arith, ints)
            by (Last stands_k inside turns zeros) = turns-at turns
              where
                turns-at : place t (block_of t x) x.at k ≡ turns_of (trip t k x.at) → counter x.at k ≡ turns_of (trip t k x.at)
                turns-at f = sym here ∙ f
            by (Inner inside from below text_is) = absurd (let h = here in let q = past in omega (arith, ints))
            by (Test inside while text_is tested zeros) =
                ⊎_elim (λ z. let h = here in let q = past in let n = turns-none (trip t k x.at) (omega (arith, ints)) in omega (arith, ints))
                (λ b. let low = b.0 in let high = b.1 in let h = here in let q = past in let n = turns-trip (trip t k x.at) (omega (arith, ints)) in omega (arith, ints)) tested

        same : Agree D (place t (block_of t x) x.at) (place t (post k) x.at)
        same j l =
            head-plain (suc k) s j
            ∙ ⊎_elim (λ m. sym (end-counter D t is chunk k x.at j m))
            (λ m. ⊎_elim (λ n. head-zero (suc k) s j (omega arith) ∙ sym (end-rest D t is chunk k x.at j n))
            (λ n. let f : k ≡ j = omega arith in subst (λ (i : ℕ). counter x.at i ≡ place t (post k) x.at i) f (shown ∙ sym (end-turns D t is chunk k x.at)))
            (cases_lt k j))
            (cases_lt j k)

        gap : (z : Instance) → Predicted t chunk z → Before D (At D t is chunk x) (At D t is chunk z) → Before D (At D t is chunk z) (E k x.at) → ⊥
        gap z q l h = by (within D t is chunk k x.at some size turn-k z q (λ j m. sym (there j (omega arith)) ∙ begins j m))
          where
            there : Agree D (place t (block_of t x) x.at) (place t (block_of t z) z.at)
            there = between D D (At D t is chunk x) (At D t is chunk z) (E k x.at) (omega arith) same l h

            low : suc k + suc k < text_at D t is z.block
            low = let m = by-text D (At D t is chunk x) (At D t is chunk z) there l in omega (arith, text)

            high : text_at D t is z.block < D + D + D + 3 - k
            high = by-text D (At D t is chunk z) (E k x.at) (λ j o. sym (there j o) ∙ same j o) h

            at-k : place t (block_of t z) z.at k ≡ counter x.at k
            at-k = sym (there k (omega arith)) ∙ head-plain (suc k) s k

            by : Within D t is chunk k x.at z → ⊥
            by (Outer zeros text_is) = ⊎_elim (λ m. let n = m in let o = low in omega arith) (λ m. let n = m.0 in let o = low in omega arith) text_is
            by (Last stands_k inside turns zeros) = let o = high in let f = text-stands D t is Post k z.block stands_k in omega arith
            by (Inner inside from below text_is) = let f = at-k in let q = past in omega (arith, ints)
            by (Test inside while text_is tested zeros) = let o = low in omega arith

    next-is : (part : Part) (level : ℕ) → Stands t part level x.block → next t x ≡ next_by t part level x.block x.at
    unfolding next
    next-is part level s = ap (λ (q : Part). next_by t q (block_of t x).level x.block x.at) s.part-is ∙ ap (λ (n : ℕ). next_by t part n x.block x.at) s.level-is

    pub next-leads : L (At D t is chunk x) (next t x)
    next-leads = by (kind D t is x.block p.is.block)
      where
        led : (y : Instance) → next t x ≡ y → L (At D t is chunk x) y → L (At D t is chunk x) (next t x)
        led y e lead = subst (L (At D t is chunk x)) (sym e) lead

        from-pre : (level : ℕ) → 1 ≤ level → level ≤ D → Stands t Pre level x.block → (level < D) ⊎ (D ≤ level) → L (At D t is chunk x) (next t x)
        from-pre level from to s (inl l) =
            let test : nat_lt level (depth t) ≡ true = let deep = is.deep in grind (arith, nat_tests) in
            let next_block = pre-next D t is level x.block from l s in
            let c = counters-of t Pre level x.block s in
            let zeros : (j : ℕ) → level ≤ j → counter x.at j ≡ pos 0 = λ j m. p.is.rest j (omega arith) in
            led (instance (x.block + 1) x.at) (next-is Pre level s ∙ ap (λ (b : Bool). if b then instance (x.block + 1) x.at else next_turn t (level - 1) x.at) test)
            (ahead-leads x p (ap is_post s.part-is) next_block.0 (enters D t is level (x.block + 1) x.at size zeros (inr next_block.1))
            (entered D t is chunk level (x.block + 1) x.at from size (turn-of Pre level level s (turning-of t Pre level x.block s)) zeros (inr next_block.1)))
        from-pre level from to s (inr l) =
            let test : nat_lt level (depth t) ≡ false = let deep = is.deep in grind (arith, nat_tests) in
            let e : level ≡ D = omega arith in
            led (next_turn t (level - 1) x.at) (next-is Pre level s ∙ ap (λ (b : Bool). if b then instance (x.block + 1) x.at else next_turn t (level - 1) x.at) test)
            (subst (λ (n : ℕ). L (At D t is chunk x) (next_turn t (n - 1) x.at)) (sym e) (from-body (subst (λ (n : ℕ). Stands t Pre n x.block) e s)))

        at-head : (level : ℕ) → 1 ≤ level → level ≤ D → Stands t Head level x.block → (ends : Bool) → ends_loop t level x.at ≡ ends → L (At D t is chunk x) (next t x)
        at-head level from to s true e =
            let parts = and_parts (nat_lt 1 level) (not (int_lt (counter x.at (level - 1)) (trip t (level - 1) x.at))) e in
            let first_part = parts.0 in
            let inner : 1 < level = grind (arith, nat_tests) in
            let whole : suc (level - 1) ≡ level = omega arith in
            led (after_loop t (level - 1) x.at) (next-is Head level s ∙ ap (λ (b : Bool). if b then after_loop t (level - 1) x.at else instance (x.block + 1) x.at) e)
            (from-end (level - 1) (omega arith) (subst (λ (n : ℕ). Stands t Head n x.block) (sym whole) s) (omega arith) (int_lt-false (counter x.at (level - 1)) (trip t (level - 1) x.at) (not-true _ parts.1)))
        at-head level from to s false e =
            led (instance (x.block + 1) x.at) (next-is Head level s ∙ ap (λ (b : Bool). if b then after_loop t (level - 1) x.at else instance (x.block + 1) x.at) e)
            (from-head level from to s (λ m f g. let h : level - 1 ≡ m = omega arith in
            subst (λ (n : ℕ). counter x.at n <ℤ trip t n x.at) h (int_lt-true (counter x.at (level - 1)) (trip t (level - 1) x.at) (turns m f g (int_lt (counter x.at (level - 1)) (trip t (level - 1) x.at)) refl))))
          where
            turns : (m : ℕ) → 1 ≤ m → level ≡ suc m → (b : Bool) → int_lt (counter x.at (level - 1)) (trip t (level - 1) x.at) ≡ b → int_lt (counter x.at (level - 1)) (trip t (level - 1) x.at) ≡ true
            turns m f g true h = h
            turns m f g false h =
                let test : nat_lt 1 level ≡ true = grind (arith, nat_tests) in
                let ended : ends_loop t level x.at ≡ true = ap (λ (b : Bool). b && not (int_lt (counter x.at (level - 1)) (trip t (level - 1) x.at))) test ∙ ap not h in
                let z : true ≡ false = sym ended ∙ e in cc

        by : Kind D t is x.block → L (At D t is chunk x) (next t x)
        by (AtHead level from to here text) = at-head level from to here (ends_loop t level x.at) refl
        by (AtPre level from to here text) = from-pre level from to here (cases_lt level D)
        by (AtPost level from to here text) = led (next_turn t (level - 1) x.at) (next-is Post level here) (from-post level from to here)
