-- The machine of instances that are verified as they run is lawful.
use Rattle.std.proofs.Common.{◌≡◌, refl, ap, ap₂, ◌∙◌, sym, subst, ℕ, ℤ, pos, negsuc, ◌+◌, ◌<◌, ◌≤◌, ⊎_elim, Bool, true, false, true≢false, List, [], ◌∷◌, length, set, length-set, slice_get, Option, Some, None, Result, Ok, Err, nat_eq, nat_lt, arith, unwrap_or, get_or-set_same, get_or-set_other}
use Rattle.std.specs.Prelude.{if◌then◌else◌, ◌&&◌, not}
use Rattle.std.specs.List.{list_any}
use Rattle.std.proofs.lemmas.Bool.{cases_eq, cases_lt, and_parts}
use Rattle.std.proofs.lemmas.Bool.Decides.{nat_tests}
use Rattle.std.proofs.lemmas.List.{set_past}
use Rattle.std.proofs.lemmas.Option.{slice_get_past, slice_get-get_or, unwrap_or-slice_get}
use Rattle.nest_lang.specs.declared.tree.Access.{Access}
use Rattle.nest_lang.specs.declared.tree.AccessKind.{AccessKind}
use Rattle.nest_lang.specs.declared.tree.AccessKind.TheVariants as kind
use Rattle.nest_lang.specs.declared.tree.Head.{Head}
use Rattle.nest_lang.specs.declared.tree.Head.TheVariants.{For, While}
use Rattle.nest_lang.specs.declared.observe.Seen.TheVariants.{Lower, Trip, Condition}
use Rattle.nest_lang.specs.Values.{same, trip_count}
use Rattle.nest_lang.specs.Stores.{word_at, Store, store_of, Effect, Nothing, Local, Scalar, Word, effect_on}
use Rattle.nest_lang.specs.declared.tree.Expr.{Expr}
use Rattle.nest_lang.specs.declared.observe.Stop.{Stop}
use Rattle.nest_lang.specs.declared.observe.Stop.TheVariants.{Unexpected}
use Rattle.nest_lang.specs.Lookups.{Expectation, lies_in, line_of, look, look_load, word_or_outside}
use Rattle.nest_lang.specs.Traces.{Occurrence, Observation, Entry, Halt, Trace, after_all, traced}
use Rattle.nest_lang.specs.Expressions.{Frame, shown, Told, told_by, told}
use Rattle.nest_lang.specs.Statements.{block_trace, started, announced, shown_before, instance_trace}
use Rattle.nest_lang.specs.Heads.{Yield, Headed, Bounds, Tested, as_number, heading, then_head, head_of, head_step}
use Rattle.block_exec.specs.Laws.{AlikeWhereLoaded}
use Rattle.block_exec.proofs.AlikeStores.{depends_where_loaded}
use Rattle.block_exec.proofs.StoredWordLaws.{changes_where_stored}
use Rattle.orders.specs.Runs.{Outcome, word, Machine, touches, SameOn, Alike, Lawful}
use Rattle.orders.proofs.SwapLaws.{some-injective}
use Rattle.orders.proofs.LiftLaws.{any-has, has_any, or-from-first, or-from-second}
use Rattle.follow.specs.Forecasts.{same_all, all_agree, Forecast}
use Rattle.follow.specs.Reaches.{plus, reach_by, reach, Reached}
use Rattle.follow.specs.Plans.{frame_with, work_trace, item_trace, Item, Work, Runs, Evaluates}
use Rattle.follow.specs.FollowRuns.{state_of, ended_with}
use Rattle.follow.specs.Footprints.{same_kind, work_accesses, lies_in_one, item_writes, follow_machine}
use Rattle.follow.specs.ReorderLaws.{FollowIsLawful}
use Rattle.follow.proofs.AccessingLaws.{only, is_access, own_accesses, own-accesses}

-- lists of words
same-set : (m w : List ℤ) (i a : ℕ) (v : ℤ) → length m ≡ length w → word m a ≡ word w a → word (set m i v) a ≡ word (set w i v) a
same-set m w i a v size h =
    ⊎_elim
    (λ e. ⊎_elim
    (λ l. subst (λ k. word (set m i v) k ≡ word (set w i v) k) (sym e) (get_or-set_same m i v (pos 0) l ∙ sym (get_or-set_same w i v (pos 0) (omega arith))))
    (λ past. rw (set_past m i v past, set_past w i v (omega arith)) h)
    (cases_lt i (length m)))
    (λ ne. get_or-set_other m i a v (pos 0) ne ∙ h ∙ sym (get_or-set_other w i a v (pos 0) ne))
    (cases_eq a i)

word-get : (m w : List ℤ) (a : ℕ) → slice_get m a ≡ slice_get w a → word m a ≡ word w a
word-get m w a e = sym (unwrap_or-slice_get m a (pos 0)) ∙ ap (λ (o : Option ℤ). unwrap_or o (pos 0)) e ∙ unwrap_or-slice_get w a (pos 0)

get-word : (m w : List ℤ) (a : ℕ) → length m ≡ length w → (a < length m → word m a ≡ word w a) → slice_get m a ≡ slice_get w a
get-word m w a size h =
    ⊎_elim
    (λ l. slice_get-get_or m a (pos 0) l ∙ ap (λ (z : ℤ). Some z) (h l) ∙ sym (slice_get-get_or w a (pos 0) (omega arith)))
    (λ past. slice_get_past m a past ∙ sym (slice_get_past w a (omega arith)))
    (cases_lt a (length m))

-- what entries do to words
after-memory : (es : List Entry) (s t : Store) → s.memory ≡ t.memory → (after_all s es).memory ≡ (after_all t es).memory
after-memory [] s t h = h
after-memory (e ∷ es) s t h = after-memory es (effect_on s e.effect) (effect_on t e.effect) (one e.effect)
  where
    one : (d : Effect) → (effect_on s d).memory ≡ (effect_on t d).memory
    one Nothing = h
    one (Local number value) = h
    one (Scalar number value) = h
    one (Word address value) = ap (λ (m : List ℤ). set m address value) h

after-shown : (os : List Observation) (es : List Entry) (s : Store) → after_all s (shown_before os es) ≡ after_all s es
after-shown os [] s = refl
after-shown os (e ∷ es) s = refl

after-long : (es : List Entry) (s : Store) → length (after_all s es).memory ≡ length s.memory
after-long [] s = refl
after-long (e ∷ es) s = after-long es (effect_on s e.effect) ∙ one e.effect
  where
    one : (d : Effect) → length (effect_on s d).memory ≡ length s.memory
    one Nothing = refl
    one (Local number value) = refl
    one (Scalar number value) = refl
    one (Word address value) = length-set s.memory address value

module _ (p : Forecast) where
  -- where a trace leads is the store after all of it
  Ends : Option Reached → Store → Type 0
  Ends None u = Unit {0}
  Ends (Some r) u = r.store ≡ u

  reach_by-after : (es : List Entry) (halt : Option Halt) (s : Store) → Ends (reach_by p es halt s) (after_all s es)
  unfolding Ends
  reach_by-after [] None s = refl
  reach_by-after [] (Some halt) s = tt
  reach_by-after (e ∷ es) halt s = by (all_agree p e.before && all_agree p e.seen) (reach_by p es halt (effect_on s e.effect)) (reach_by-after es halt (effect_on s e.effect))
    where
      by : (b : Bool) (o : Option Reached) → Ends o (after_all (effect_on s e.effect) es) → Ends (if b then plus 1 o else None) (after_all (effect_on s e.effect) es)
      by true None h = tt
      by true (Some r) h = h
      by false o h = tt

  reach-after : (t : Trace) (s : Store) → Ends (reach p t s) (after_all s t.entries)
  unfolding reach
  reach-after t s = reach_by-after t.entries t.halt s

  -- one trace from two stores that have the same scalars, and alike words where q names them
  module _ (q : ℕ → Bool) where
    record Beside (s t : Store) : Type 0 where
      scalars : s.scalars ≡ t.scalars
      long : length s.memory ≡ length t.memory
      memory : SameOn q s.memory t.memory

    effect-beside : (s t : Store) (d : Effect) → Beside s t → Beside (effect_on s d) (effect_on t d)
    effect-beside s t Nothing h = h
    effect-beside s t (Local number value) h = record { scalars = h.scalars; long = h.long; memory = h.memory }
    effect-beside s t (Scalar number value) h = record { scalars = ap (λ (xs : List ℤ). set xs number value) h.scalars; long = h.long; memory = h.memory }
    effect-beside s t (Word address value) h = record {
      scalars = h.scalars;
      long = length-set s.memory address value ∙ h.long ∙ sym (length-set t.memory address value);
      memory = λ a k. same-set s.memory t.memory address a value h.long (h.memory a k);
    }

    Both : Option Reached → Option Reached → Type 0
    Both None None = Unit {0}
    Both (Some a) (Some b) = (a.steps ≡ b.steps) × Beside a.store b.store
    Both _ _ = ⊥

    reach_by-beside : (es : List Entry) (halt : Option Halt) (s t : Store) → Beside s t → Both (reach_by p es halt s) (reach_by p es halt t)
    unfolding Both
    reach_by-beside [] None s t h = (refl, h)
    reach_by-beside [] (Some halt) s t h = tt
    reach_by-beside (e ∷ es) halt s t h = by (all_agree p e.before && all_agree p e.seen) _ _ (reach_by-beside es halt (effect_on s e.effect) (effect_on t e.effect) (effect-beside s t e.effect h))
      where
        by : (b : Bool) (o o' : Option Reached) → Both o o' → Both (if b then plus 1 o else None) (if b then plus 1 o' else None)
        by true None None k = tt
        by true (Some a) (Some c) k = (ap (λ (n : ℕ). 1 + n) k.0, k.1)
        by true None (Some c) k = absurd k
        by true (Some a) None k = absurd k
        by false o o' k = tt

    reach-beside : (tr : Trace) (s t : Store) → Beside s t → Both (reach p tr s) (reach p tr t)
    unfolding reach
    reach-beside tr s t h = reach_by-beside tr.entries tr.halt s t h

    ended-beside : (after : Item → List ℤ) (i : Item) (o o' : Option Reached) → Both o o' → Alike q (ended_with (after i) (state_of o)) (ended_with (after i) (state_of o'))
    unfolding Both
    ended-beside after i None None k = tt
    ended-beside after i None (Some b) k = absurd k
    ended-beside after i (Some a) None k = absurd k
    ended-beside after i (Some a) (Some b) k =
        by (same_all a.store.scalars (after i)) (same_all b.store.scalars (after i)) (ap (λ (xs : List ℤ). same_all xs (after i)) k.1.scalars)
      where
        by : (c d : Bool) → c ≡ d → Alike q (if c then Some (record { memory = a.store.memory; steps = a.steps }) else None) (if d then Some (record { memory = b.store.memory; steps = b.steps }) else None)
        by true true e = (k.0, k.1.memory)
        by false false e = tt
        by true false e = absurd (true≢false e)
        by false true e = absurd (true≢false (sym e))

  -- an instance of which only its own accesses are expected
  module _ (at : Occurrence) (values : List ℤ) where
    abbrev own : Work → Frame
    own w = frame_with at values (own_accesses p at w)

    only-expected : (k : AccessKind) (accesses : List Access) (a access : ℕ) → lies_in (only k accesses (p.interval at) access) (pos a) ≡ true → lies_in_one p k at accesses a ≡ true
    only-expected k accesses a access h = by (list_any (is_access k access) accesses) refl h
      where
        by : (b : Bool) → list_any (is_access k access) accesses ≡ b → lies_in (if b then p.interval at access else None) (pos a) ≡ true → lies_in_one p k at accesses a ≡ true
        by true e h =
            let (x, has, is) = any-has (is_access k access) accesses e in
            let parts = and_parts (same_kind x.kind k) (nat_eq x.number access) is in
            let one : access ≡ x.number = let n = parts.1 in grind (arith, nat_tests) in
            has_any (λ (z : Access). same_kind z.kind k && lies_in (p.interval at z.number) (pos a)) accesses x has
            (ap₂ (λ (b c : Bool). b && c) parts.0 (subst (λ (z : ℕ). lies_in (p.interval at z) (pos a) ≡ true) one h))
        by false e h = absurd (true≢false (sym h))

    alike-loaded : (w : Work) (size : ℕ) (m n : List ℤ) → length m ≡ size → length n ≡ size
        → ((a : ℕ) → a < size → lies_in_one p kind.Load at (work_accesses w) a ≡ true → word m a ≡ word n a) → AlikeWhereLoaded (own_accesses p at w) m n
    alike-loaded w size m n lm ln h = (lm ∙ sym ln, λ a loaded. get-word m n a (lm ∙ sym ln) (λ l. h a (subst (λ (k : ℕ). a < k) lm l) (only-expected kind.Load (work_accesses w) a loaded.0 loaded.1)))

    -- from alike words it is one trace
    module _ (x : Expectation) (verified : x.verifies ≡ true) (m n : List ℤ) (alike : AlikeWhereLoaded x m n) where
      find-near : (access : ℕ) (z : ℤ) → look_load x m access z ≡ look_load x n access z
      unfolding look
      find-near access z = rw verified (by (lies_in (x.loads access) z) refl)
        where
          found : (z : ℤ) → lies_in (x.loads access) z ≡ true → word_or_outside z (word_at m z) ≡ word_or_outside z (word_at n z)
          found (pos a) e = ap (word_or_outside (pos a)) (alike.1 a (access, e))
          found (negsuc a) e = refl

          by : (b : Bool) → lies_in (x.loads access) z ≡ b
              → (if not b then Err (Unexpected z (line_of (x.loads access))) else word_or_outside z (word_at m z)) ≡ (if not b then Err (Unexpected z (line_of (x.loads access))) else word_or_outside z (word_at n z))
          by true e = found z e
          by false e = refl

      told-near : (o : Occurrence) (vs scalars : List ℤ) (e : Expr) → told (frame_with o vs x) (store_of m scalars []) e ≡ told (frame_with o vs x) (store_of n scalars []) e
      told-near o vs scalars e = ap (λ (find : ℕ → ℤ → Result ℤ Stop). told_by (frame_with o vs x) scalars [] find e) (λ i access z. find-near access z i)

      head-near : (o : Occurrence) (vs scalars : List ℤ) (head : Head) → head_of (frame_with o vs x) head (store_of m scalars []) ≡ head_of (frame_with o vs x) head (store_of n scalars [])
      unfolding head_of
      head-near o vs scalars (For lower upper stride) =
          ap₂ (λ (a b : Told). then_head a.seen a.value (λ from. then_head b.seen b.value (λ to. heading (shown (frame_with o vs x) Lower from ∷ shown (frame_with o vs x) Trip (pos (trip_count from to stride)) ∷ []) (Ok (Bounds from (trip_count from to stride))))))
          (told-near o vs scalars lower) (told-near o vs scalars upper)
      head-near o vs scalars (While condition) =
          ap (λ (a : Told). then_head a.seen a.value (λ v. heading (shown (frame_with o vs x) Condition (as_number (not (same v (pos 0)))) ∷ []) (Ok (Tested (not (same v (pos 0))))))) (told-near o vs scalars condition)

    nothing-behind : (os seen : List Observation) (v : Result Yield Halt) (s t : Store) → traced (head_step os seen v (λ y. [])) s ≡ traced (head_step os seen v (λ y. [])) t
    nothing-behind os seen (Ok y) s t = refl
    nothing-behind os seen (Err halt) s t = refl

    work-near : (w : Work) (m n scalars : List ℤ) → AlikeWhereLoaded (own_accesses p at w) m n → work_trace (own w) w (store_of m scalars []) ≡ work_trace (own w) w (store_of n scalars [])
    unfolding instance_trace announced
    work-near (Runs first rest) m n scalars alike =
        ap (λ (t : Trace). record t { entries = shown_before (announced (own (Runs first rest)) (store_of m scalars [])) t.entries })
        (depends_where_loaded (own (Runs first rest)) (first ∷ rest) m n scalars (started (store_of m scalars [])).locals refl alike)
    work-near (Evaluates head) m n scalars alike =
        let f : Frame = own (Evaluates head) in
        let s : Store = store_of m scalars [] in
        let t : Store = store_of n scalars [] in
        ap (λ (r : Headed). traced (head_step (announced f s) r.seen r.value (λ y. [])) s) (head-near (own_accesses p at (Evaluates head)) refl m n alike at values scalars head)
        ∙ nothing-behind (announced f s) (head_of f head t).seen (head_of f head t).value s t

    -- it leaves what it doesn't store
    head-leaves : (os seen : List Observation) (v : Result Yield Halt) (s : Store) → after_all s (traced (head_step os seen v (λ y. [])) s).entries ≡ s
    head-leaves os seen (Ok y) s = refl
    head-leaves os seen (Err halt) s = refl

    work-leaves : (w : Work) (s : Store) (a : ℕ) → lies_in_one p kind.Store at (work_accesses w) a ≡ false → slice_get (after_all s (work_trace (own w) w s).entries).memory a ≡ slice_get s.memory a
    unfolding instance_trace
    work-leaves (Runs first rest) s a none =
        let f : Frame = own (Runs first rest) in
        let es = (block_trace f (first ∷ rest) (started s)).entries in
        ap (λ (u : Store). slice_get u.memory a) (after-shown (announced f s) es s)
        ∙ ap (λ (m : List ℤ). slice_get m a) (after-memory es s (started s) refl)
        ∙ changes_where_stored f (first ∷ rest) (started s) a refl (λ stored. true≢false (sym (only-expected kind.Store (work_accesses (Runs first rest)) a stored.0 stored.1) ∙ none))
    work-leaves (Evaluates head) s a none =
        let f : Frame = own (Evaluates head) in
        ap (λ (u : Store). slice_get u.memory a) (head-leaves (announced f s) (head_of f head s).seen (head_of f head s).value s)

  -- all that an instance does leaves as many words, and each that is none of its writes
  pub item-long : (i : Item) (s : Store) → length (after_all s (item_trace p i s).entries).memory ≡ length s.memory
  item-long i s = after-long (item_trace p i s).entries s

  pub item-leaves : (i : Item) (s : Store) (a : ℕ) → item_writes p i a ≡ false → word (after_all s (item_trace p i s).entries).memory a ≡ word s.memory a
  item-leaves i s a none =
      ap (λ (t : Trace). word (after_all s t.entries).memory a) (own-accesses p i.at i.values i.work s)
      ∙ word-get (after_all s (work_trace (own i.at i.values i.work) i.work s).entries).memory s.memory a (work-leaves i.at i.values i.work s a none)

  module _ (after : Item → List ℤ) (words : ℕ) where
    abbrev s : Machine Item
    s = follow_machine p after words

    abbrev begin : Item → List ℤ → Store
    begin i m = store_of m (p.scalars i.at) []

    own-trace : Item → List ℤ → Trace
    own-trace i m = work_trace (own i.at i.values i.work) i.work (begin i m)

    runs : (i : Item) (m : List ℤ) → s.run i m ≡ ended_with (after i) (state_of (reach p (own-trace i m) (begin i m)))
    unfolding own-trace
    runs i m = ap (λ (t : Trace). ended_with (after i) (state_of (reach p t (begin i m)))) (own-accesses p i.at i.values i.work (begin i m))

    -- the words that a run gives are those after its trace
    gives : (i : Item) (m : List ℤ) (r : Outcome) → s.run i m ≡ Some r → r.memory ≡ (after_all (begin i m) (own-trace i m).entries).memory
    unfolding Ends
    gives i m r e = from (reach p (own-trace i m) (begin i m)) (reach-after (own-trace i m) (begin i m)) (sym (runs i m) ∙ e)
      where
        from : (o : Option Reached) → Ends o (after_all (begin i m) (own-trace i m).entries) → ended_with (after i) (state_of o) ≡ Some r → r.memory ≡ (after_all (begin i m) (own-trace i m).entries).memory
        from None ends k = absurd (cc)
        from (Some u) ends k = by (same_all u.store.scalars (after i)) k
          where
            by : (b : Bool) → (if b then Some (record { memory = u.store.memory; steps = u.steps }) else None) ≡ Some r → r.memory ≡ (after_all (begin i m) (own-trace i m).entries).memory
            by true k = sym (ap (λ (o : Outcome). o.memory) (some-injective _ _ k)) ∙ ap (λ (v : Store). v.memory) ends
            by false k = absurd (cc)

    long-by : (i : Item) (m : List ℤ) (r : Outcome) → s.run i m ≡ Some r → length r.memory ≡ length m
    long-by i m r e = ap length (gives i m r e) ∙ after-long (own-trace i m).entries (begin i m)

    kept_by : (i : Item) (m : List ℤ) (r : Outcome) → length m ≡ s.size → s.run i m ≡ Some r → (a : ℕ) → s.writes i a ≡ false → word r.memory a ≡ word m a
    unfolding own-trace
    kept_by i m r size e a none = ⊎_elim within past (cases_lt a s.size)
      where
        within : a < s.size → word r.memory a ≡ word m a
        within l =
            let out : lies_in_one p kind.Store i.at (work_accesses i.work) a ≡ false = none in
            ap (λ (n : List ℤ). word n a) (gives i m r e) ∙ word-get _ m a (work-leaves i.at i.values i.work (begin i m) a out)

        past : s.size ≤ a → word r.memory a ≡ word m a
        past l =
            let long = long-by i m r e in
            word-get r.memory m a (slice_get_past r.memory a (omega (arith, long, size, l)) ∙ sym (slice_get_past m a (omega (arith, size, l))))

    small-and : (a : ℕ) (b : Bool) → a < words → b ≡ true → nat_lt a words && b ≡ true
    small-and a b l e =
        let small : nat_lt a words ≡ true = grind (arith, nat_tests, l) in
        ap₂ (λ (c d : Bool). c && d) small e

    near-by : (i : Item) (m n : List ℤ) → length m ≡ s.size → length n ≡ s.size → SameOn (touches s i) m n → Alike (s.writes i) (s.run i m) (s.run i n)
    unfolding own-trace
    near-by i m n lm ln alike =
        let q = s.writes i in
        let one : own-trace i m ≡ own-trace i n = work-near i.at i.values i.work m n (p.scalars i.at) (alike-loaded i.at i.values i.work s.size m n lm ln (λ a l k. alike a (or-from-first _ _ (small-and a (lies_in_one p kind.Load i.at (work_accesses i.work) a) l k)))) in
        let both = reach-beside q (own-trace i m) (begin i m) (begin i n) (record { scalars = refl; long = lm ∙ sym ln; memory = λ a k. alike a (or-from-second _ _ k) }) in
        subst (λ (o : Option Outcome). Alike q o (s.run i n)) (sym (runs i m))
        (subst (λ (o : Option Outcome). Alike q (ended_with (after i) (state_of (reach p (own-trace i m) (begin i m)))) o) (sym (runs i n))
        (subst (λ (t : Trace). Alike q (ended_with (after i) (state_of (reach p (own-trace i m) (begin i m)))) (ended_with (after i) (state_of (reach p t (begin i n))))) one
        (ended-beside q after i _ _ both)))

    pub lawful-at : Lawful s
    lawful-at = record { long = λ i m r size e. long-by i m r e ∙ size; kept = kept_by; near = near-by }

pub follow-is-lawful : FollowIsLawful
follow-is-lawful p after words = lawful-at p after words
