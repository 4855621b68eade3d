-- A comparison that was shown what some turns show has found their first deviation.
use Rattle.std.proofs.Common.{◌≡◌, refl, sym, ap, ap₂, subst, ◌∙◌, ℕ, suc, ℤ, unsigned_abs, ◌⊎◌, inl, inr, ⊎_elim, Bool, true, false, List, [], ◌∷◌, ◌++◌, append_assoc, append-nil, Option, Some, None}
use Rattle.std.specs.Prelude.{◌&&◌, if◌then◌else◌, option_map}
use Rattle.std.specs.List.{AllByRecursion}
use Rattle.nest_lang.specs.declared.observe.Seen.TheVariants as see
use Rattle.nest_lang.specs.Stores.{Store}
use Rattle.nest_lang.specs.Lookups.{plain}
use Rattle.nest_lang.specs.Traces.{Occurrence, Observation, Halt, Trace, Finish, Done, Halted, Limited, Cut, cut, seen_in}
use Rattle.nest_lang.specs.Statements.{scalars_from}
use Rattle.nest_lang.specs.Turns.{turns_trace}
use Rattle.block_exec.specs.Watches.{Chain}
use Rattle.domain.specs.declared.chunk.Chunk.{Chunk}
use Rattle.domain.specs.Tables.{Table}
use Rattle.domain.specs.Instances.{Instance, opening_at}
use Rattle.follow.specs.declared.how.How.{How}
use Rattle.follow.specs.Forecasts.{agrees, all_agree, Forecast}
use Rattle.follow.specs.Plans.{frame_with}
use Rattle.follow.specs.ChunkRuns.{ChunkRun, closing_at}
use Rattle.follow.specs.Deviations.{Differs, Halts, Limit, IsFirst}
use Rattle.follow.specs.Hows.{how_seen, how_of, how_halted}
use Rattle.follow.proofs.HeadYieldLaws.{agree-append}
use Rattle.follow_chunk.specs.declared.task.Deviation as code
use Rattle.follow_chunk.specs.Predicted.{occurrence_of, instance_of, forecast_of}
use Rattle.compare.specs.Kept.{kept}
use Rattle.compare.specs.Differences.{difference, scalar_difference, scalars_difference, first_difference}
use Rattle.compare.specs.Comparisons.{Found, found_at, Comparison, fresh, IsOfTurns, MayCompare}
use Rattle.compare.specs.ChainLaw.{behind, run_of_chunk}
use Rattle.compare.specs.Compared.{due_after, IsKeptDeviationOf, IsFirstKept}
use Rattle.compare.proofs.InnerTripLaws.{turns-tell}

module _ (t : Table) (chunk : Chunk) where
  abbrev p : Forecast
  p = forecast_of t

  abbrev at-state : Instance → Option Found → Comparison
  at-state x first = record { table = t; chunk = chunk; at = x; first = first }

  abbrev found : Observation → Found
  found o = record { at = instance_of t o.at; how = how_seen (forecast_of t) (kept o) }

  -- what was found stays
  stays : (shown : List Observation) (x : Instance) (f : Found) (new : Comparison) → AllByRecursion IsOfTurns shown → Chain MayCompare (at-state x (Some f)) shown new → new ≡ at-state x (Some f)
  stays [] x f new all same = same
  stays (o ∷ os) x f new all (mid, step, rest) = stays os x f new all.1 (subst (λ (c : Comparison). Chain MayCompare c os new) (step all.0) rest)

  -- all agrees, or the first observation that doesn't was found
  abbrev Shown : List Observation → Instance → Comparison → Type 0
  Shown shown x new =
      ((all_agree (forecast_of t) shown ≡ true) × (new ≡ at-state (due_after t x shown) None))
      ⊎ ((o : Observation) × IsFirst (forecast_of t) shown o × ((y : Instance) × (new ≡ at-state y (Some (found o)))))

  abbrev after : Observation → Option How → Comparison
  after o h = at-state (instance_of t o.at) (option_map (found_at (instance_of t o.at)) h)

  choose : (o : Observation) (b : Bool) → agrees (forecast_of t) o ≡ b → difference t o ≡ (if b then None else Some (how_seen (forecast_of t) (kept o)))
  choose o b e = ap (λ (b : Bool). if b then None else Some (how_seen (forecast_of t) (kept o))) e

  pub shows : (shown : List Observation) (x : Instance) (new : Comparison) → AllByRecursion IsOfTurns shown → Chain MayCompare (at-state x None) shown new → Shown shown x new
  unfolding all_agree
  shows [] x new all same = inl (refl, same)
  shows (o ∷ os) x new all (mid, step, rest) = by (agrees (forecast_of t) o) refl (λ c. shows os (instance_of t o.at) new all.1 c)
    where
      moved : (h : Option How) → difference t o ≡ h → Chain MayCompare (after o h) os new
      moved h e = subst (λ (h : Option How). Chain MayCompare (after o h) os new) e (subst (λ (c : Comparison). Chain MayCompare c os new) (step all.0) rest)

      by : (b : Bool) → agrees (forecast_of t) o ≡ b → (Chain MayCompare (at-state (instance_of t o.at) None) os new → Shown os (instance_of t o.at) new) → Shown (o ∷ os) x new
      by true e more =
          ⊎_elim (λ h. inl (ap₂ (λ (a b : Bool). a && b) e h.0, h.1))
          (λ h. inr (h.0, record { before = o ∷ h.1.before; after = h.1.after; are = ap (λ (xs : List Observation). o ∷ xs) h.1.are; agree = ap₂ (λ (a b : Bool). a && b) e h.1.agree; differs = h.1.differs }, h.2))
          (more (moved None (choose o true e)))
      by false e more =
          inr (
            o,
            record { before = []; after = os; are = refl; agree = refl; differs = e },
            (
              instance_of t o.at,
              stays os (instance_of t o.at) (found o) new all.1 (moved (Some (how_seen (forecast_of t) (kept o))) (choose o false e)),
            ),
          )

  -- ---- the run of the chunk, by what was shown and how it finished

  module _ (next : Occurrence) (next_is : instance_of t next ≡ behind t chunk) where
    abbrev run-by : List Observation → Finish → List ℤ → ChunkRun
    run-by os e scalars = record { observations = os ++ closing_at next e scalars; finish = e }

    agree-both : (xs ys : List Observation) → all_agree p xs ≡ true → all_agree p ys ≡ true → all_agree p (xs ++ ys) ≡ true
    agree-both xs ys h k = agree-append p xs ys ∙ ap₂ (λ (a b : Bool). a && b) h k

    first-back : (xs ys : List Observation) (o : Observation) → IsFirst p xs o → IsFirst p (xs ++ ys) o
    first-back xs ys o h =
        record { before = h.before; after = h.after ++ ys; are = ap (λ (os : List Observation). os ++ ys) h.are ∙ append_assoc h.before (o ∷ h.after) ys; agree = h.agree; differs = h.differs }

    first-front : (xs ys : List Observation) (o : Observation) → all_agree p xs ≡ true → IsFirst p ys o → IsFirst p (xs ++ ys) o
    first-front xs ys o h k =
        record { before = xs ++ k.before; after = k.after; are = ap (λ (os : List Observation). xs ++ os) k.are ∙ sym (append_assoc xs k.before (o ∷ k.after)); agree = agree-both xs k.before h k.agree; differs = k.differs }

    abbrev from-number : ℕ → List ℤ → List Observation
    from-number n vs = scalars_from (frame_with next [] plain) n vs

    abbrev closing : ℕ → ℤ → Observation
    closing n v = record { at = next; what = see.Scalar n; value = v }

    closing-difference : (n : ℕ) (v : ℤ) → difference t (closing n v) ≡ scalar_difference t (behind t chunk) n v
    closing-difference n v = ap (λ (x : Instance). scalar_difference t x n v) next_is

    -- a closing scalar agrees, or is the difference
    scalar-at : (n : ℕ) (v : ℤ) (b : Bool) → agrees p (closing n v) ≡ b → scalar_difference t (behind t chunk) n v ≡ (if b then None else Some (how_seen p (kept (closing n v))))
    scalar-at n v b e = sym (closing-difference n v) ∙ choose (closing n v) b e

    scalars-agree : (n : ℕ) (vs : List ℤ) → scalars_difference t (behind t chunk) n vs ≡ None → all_agree p (from-number n vs) ≡ true
    unfolding all_agree
    scalars-agree n [] h = refl
    scalars-agree n (v ∷ vs) h = by (agrees p (closing n v)) refl (scalars-agree (suc n) vs)
      where
        by : (b : Bool) → agrees p (closing n v) ≡ b → (scalars_difference t (behind t chunk) (suc n) vs ≡ None → all_agree p (from-number (suc n) vs) ≡ true) → agrees p (closing n v) && all_agree p (from-number (suc n) vs) ≡ true
        by true e more =
            ap₂ (λ (a b : Bool). a && b) e
            (more (ap (λ (d : Option How). first_difference d (scalars_difference t (behind t chunk) (suc n) vs)) (sym (scalar-at n v true e)) ∙ h))
        by false e more =
            let f : Some (how_seen p (kept (closing n v))) ≡ None = ap (λ (d : Option How). first_difference d (scalars_difference t (behind t chunk) (suc n) vs)) (sym (scalar-at n v false e)) ∙ h in
            absurd (cc)

    -- the first closing scalar that doesn't agree
    abbrev Differing : List Observation → How → Type 0
    Differing os h = (o : Observation) × IsFirst p os o × (h ≡ how_seen p (kept o)) × (o.at ≡ next)

    scalars-differ : (n : ℕ) (vs : List ℤ) (h : How) → scalars_difference t (behind t chunk) n vs ≡ Some h → Differing (from-number n vs) h
    unfolding all_agree
    scalars-differ n [] h e = absurd (cc)
    scalars-differ n (v ∷ vs) h e = by (agrees p (closing n v)) refl (scalars-differ (suc n) vs h)
      where
        some-how : {a b : How} → ◌≡◌ {A = Option How} (Some a) (Some b) → a ≡ b
        some-how e = cc

        by : (b : Bool) → agrees p (closing n v) ≡ b → (scalars_difference t (behind t chunk) (suc n) vs ≡ Some h → Differing (from-number (suc n) vs) h) → Differing (closing n v ∷ from-number (suc n) vs) h
        by true f more =
            let d = more (ap (λ (d : Option How). first_difference d (scalars_difference t (behind t chunk) (suc n) vs)) (sym (scalar-at n v true f)) ∙ e) in
            (d.0, first-front (closing n v ∷ []) (from-number (suc n) vs) d.0 (ap (λ (b : Bool). b && true) f) d.1, d.2, d.3)
        by false f more =
            let g : Some (how_seen p (kept (closing n v))) ≡ Some h = ap (λ (d : Option How). first_difference d (scalars_difference t (behind t chunk) (suc n) vs)) (sym (scalar-at n v false f)) ∙ e in
            (closing n v, record { before = []; after = from-number (suc n) vs; are = refl; agree = refl; differs = f }, sym (some-how g), refl)

    -- ---- what was found, in a run that finished

    abbrev start : Instance
    start = opening_at t chunk.first

    module _ (D : ℕ) (os : List Observation) (scalars : List ℤ) (c : Comparison) (shown : Shown os start c) where
      abbrev Is : Finish → Option (code.Deviation D) → Type 0
      Is e result = IsKeptDeviationOf {D = D} t chunk (run-by os e scalars) result

      none-found : c.first ≡ None → (all_agree p os ≡ true) × (c.at ≡ due_after t start os)
      none-found e = ⊎_elim (λ h. (h.0, ap (λ (z : Comparison). z.at) h.1)) (λ h. absurd (let f : Some (found h.0) ≡ None = sym (ap (λ (z : Comparison). z.first) h.2.1) ∙ e in cc)) shown

      nothing-more : (agree : all_agree p os ≡ true) → all_agree p (os ++ []) ≡ true
      nothing-more agree = ap (all_agree p) (append-nil os) ∙ agree

      same-due : (x : Instance) → x ≡ due_after t start os → x ≡ due_after t start (os ++ [])
      same-due x e = e ∙ sym (ap (due_after t start) (append-nil os))

      pub found-deviates : (e : Finish) (d : code.Deviation D) → c.first ≡ Some (record { at = d.at; how = d.how }) → Is e (Some d)
      found-deviates e d is = ⊎_elim (λ h. absurd (let f : None ≡ Some (record { at = d.at; how = d.how }) = sym (ap (λ (z : Comparison). z.first) h.1) ∙ is in cc)) (λ h. by h.0 h.1 (found-is h.0 (sym (ap (λ (z : Comparison). z.first) h.2.1) ∙ is))) shown
        where
          found-is : (o : Observation) → ◌≡◌ {A = Option Found} (Some (found o)) (Some (record { at = d.at; how = d.how })) → ◌≡◌ {A = Found} (found o) (record { at = d.at; how = d.how })
          found-is o f = cc

          by : (o : Observation) → IsFirst p os o → ◌≡◌ {A = Found} (found o) (record { at = d.at; how = d.how }) → Is e (Some d)
          by o first f = (Differs o, first-back os (closing_at next e scalars) o first, sym (ap (λ (z : Found). z.at) f), sym (ap (λ (z : Found). z.how) f))

      pub halt-deviates : (halt : Halt) (d : code.Deviation D) → c.first ≡ None → d.at ≡ c.at → d.how ≡ how_halted halt → Is (Halted halt) (Some d)
      halt-deviates halt d e at how = let n = none-found e in (Halts halt, (nothing-more n.0, refl), same-due d.at (at ∙ n.1), how)

      pub limit-deviates : (d : code.Deviation D) → c.first ≡ None → d.at ≡ c.at → d.how ≡ how_of p Limit → Is Limited (Some d)
      limit-deviates d e at how = let n = none-found e in (Limit, (nothing-more n.0, refl), same-due d.at (at ∙ n.1), how)

      pub closes-differ : (h : How) (d : code.Deviation D) → c.first ≡ None → scalars_difference t (behind t chunk) 0 scalars ≡ Some h → d.at ≡ behind t chunk → d.how ≡ h → Is Done (Some d)
      closes-differ h d e differ at how =
          let n = none-found e in
          let (o, first, is, there) = scalars-differ 0 scalars h differ in
          (Differs o, first-front os (from-number 0 scalars) o n.0 first, at ∙ sym (ap (instance_of t) there ∙ next_is), how ∙ is)

      pub closes-agree : c.first ≡ None → scalars_difference t (behind t chunk) 0 scalars ≡ None → Is Done None
      closes-agree e agree = let n = none-found e in (agree-both os (from-number 0 scalars) n.0 (scalars-agree 0 scalars agree), refl)

-- ---- a run that was watched

same-end : (tr : Trace) (s : Store) (left used : ℕ) → ((cut tr s left used).ending ≡ (cut tr s left 0).ending) × ((cut tr s left used).store ≡ (cut tr s left 0).store)
unfolding cut
same-end tr s left used = (refl, refl)

-- a comparison keeps what is predicted of which chunk
pub keeps : (t : Table) (chunk : Chunk) (shown : List Observation) (x : Instance) (c : Comparison) → Shown t chunk shown x c → (c.table ≡ t) × (c.chunk ≡ chunk)
keeps t chunk shown x c (inl h) = (ap (λ (z : Comparison). z.table) h.1, ap (λ (z : Comparison). z.chunk) h.1)
keeps t chunk shown x c (inr h) = (ap (λ (z : Comparison). z.table) h.2.1, ap (λ (z : Comparison). z.chunk) h.2.1)

-- a result that is right whatever agrees, or was found first, is the deviation of each run that was watched
pub watched : (D : ℕ) (c : Comparison) (finish : Finish) (scalars : List ℤ) (result : Option (code.Deviation D))
    → ((os : List Observation) → Shown c.table c.chunk os (opening_at c.table c.chunk.first) c → IsKeptDeviationOf {D = D} c.table c.chunk (record { observations = os ++ closing_at (occurrence_of c.table (behind c.table c.chunk)) finish scalars; finish = finish }) result)
    → IsFirstKept {D = D} c finish scalars result
watched D c finish scalars result right t chunk x k loops o a b w =
    subst (λ (run : ChunkRun). IsKeptDeviationOf {D = D} t chunk run result) (sym same)
    (subst (λ (z : Table). Is z chunk) is.0 (subst (λ (z : Chunk). Is c.table z) is.1 (right os (subst (λ (z : Table). Mine z c.chunk) (sym is.0) (subst (λ (z : Chunk). Mine t z) (sym is.1) shown)))))
  where
    tr : Trace
    tr = turns_trace x k loops o (unsigned_abs chunk.turns) a.store

    os : List Observation
    os = seen_in (turns_trace x k loops o (unsigned_abs chunk.turns) a.store) a.left

    Mine : Table → Chunk → Type 0
    Mine u q = Shown u q os (opening_at u q.first) c

    Is : Table → Chunk → Type 0
    Is u q = IsKeptDeviationOf {D = D} u q (record { observations = os ++ closing_at (occurrence_of u (behind u q)) finish scalars; finish = finish }) result

    shown : Shown t chunk os (opening_at t chunk.first) c
    shown =
        shows t chunk os (opening_at t chunk.first) c (turns-tell x k loops o (unsigned_abs chunk.turns) a.store a.left)
        (subst (λ (z : Comparison). Chain MayCompare (fresh t chunk) os z) w.ends (subst (λ (z : Comparison). Chain MayCompare z os b.watch) w.begins w.ran.shown))

    is : (c.table ≡ t) × (c.chunk ≡ chunk)
    is = keeps t chunk os (opening_at t chunk.first) c shown

    same : run_of_chunk t chunk (turns_trace x k loops o (unsigned_abs chunk.turns) a.store) a.store a.left ≡ record { observations = os ++ closing_at (occurrence_of t (behind t chunk)) finish scalars; finish = finish }
    same =
        let e = same-end tr a.store a.left a.used in
        ap₂ (λ (f : Finish) (vs : List ℤ). let run : ChunkRun = record { observations = os ++ closing_at (occurrence_of t (behind t chunk)) f vs; finish = f } in run)
        (sym e.0 ∙ sym (ap (λ (z : Cut). z.ending) w.ran.cut))
        (ap (λ (z : Store). z.scalars) (sym e.1) ∙ sym (ap (λ (z : Cut). z.store.scalars) w.ran.cut) ∙ w.closes)
