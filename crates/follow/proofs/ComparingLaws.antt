-- The run of one instance, compared with what is expected of it.
use Rattle.std.proofs.Common.{◌≡◌, refl, ap, ap₂, ◌∙◌, sym, subst, ℕ, ℤ, suc, pos, ◌+◌, ◌-◌, ◌≤◌, leb, Bool, true, false, List, [], ◌∷◌, ◌++◌, append_assoc, append-nil, length, get_or, Option, Some, None, Ok, Err, arith}
use Rattle.std.specs.Prelude.{if◌then◌else◌, ◌&&◌, nat_le}
use Rattle.std.proofs.lemmas.Bool.Decides.{nat_tests}
use Rattle.nest_lang.specs.declared.observe.Seen.TheVariants as see
use Rattle.nest_lang.specs.Values.{same}
use Rattle.nest_lang.specs.Stores.{Store}
use Rattle.nest_lang.specs.Lookups.{plain}
use Rattle.nest_lang.specs.Traces.{Occurrence, Observation, Halt, Trapped, Stopped, Over, Trace, Finish, Done, Halted, Limited, Cut, cut, seen_in}
use Rattle.nest_lang.specs.Traces as traces
use Rattle.nest_lang.specs.Statements.{scalars_from}
use Rattle.orders.specs.Chains.{State}
use Rattle.follow.specs.declared.how.How.{How}
use Rattle.follow.specs.declared.how.How.TheVariants as how
use Rattle.follow.specs.Forecasts.{all_agree, same_all, Forecast}
use Rattle.follow.specs.Plans.{frame_with}
use Rattle.follow.specs.Reaches.{reach, Reached}
use Rattle.follow.specs.FollowRuns.{state_of, ended_with}
use Rattle.follow.specs.ChunkRuns.{ChunkRun, scalars_seen, closing_at}
use Rattle.follow.specs.Deviations.{Deviation, Differs, Halts, Limit, IsFirst, IsDeviation, FollowsPrediction}
use Rattle.follow.specs.Hows.{how_refused, how_seen, how_of, how_of_finish, scalars_differ}
use Rattle.follow.specs.Followed.{IsFollowed}
use Rattle.follow.proofs.Undeviated.{is_done}
use Rattle.follow.proofs.BudgetLaws.{enough, went, went-reach}
use Rattle.follow.proofs.OtherScalarLaws.{scalars-agree}
use Rattle.follow.proofs.HeadYieldLaws.{agree-append}
use Rattle.follow.proofs.VerifiedTraceLaws.{Fine, FineTrace, shows-cut, shows-all}

module _ (p : Forecast) (next : Occurrence) where
  abbrev pub run-by : List Observation → Finish → List ℤ → ChunkRun
  run-by os e scalars = record { observations = os ++ closing_at next e scalars; finish = e }

  agree-both : (xs ys : List Observation) → all_agree p xs ≡ true → all_agree p ys ≡ true → all_agree p (xs ++ ys) ≡ true
  agree-both xs ys h k = agree-append p xs ys ∙ ap₂ (λ (a b : Bool). a && b) h k

  pub first-front : (xs ys : List Observation) (o : Observation) → all_agree p xs ≡ true → IsFirst p ys o → IsFirst p (xs ++ ys) o
  first-front xs ys o h k =
      record { before = xs ++ k.before; after = k.after; are = ap (λ (os : List Observation). xs ++ os) k.are ∙ sym (append_assoc xs k.before (o ∷ k.after)); agree = agree-both xs k.before h k.agree; differs = k.differs }

  -- scalars that are the expected ones, and the first that is not
  abbrev from-number : ℕ → List ℤ → List Observation
  from-number n vs = scalars_from (frame_with next [] plain) n vs

  scalars-none : (n : ℕ) (vs : List ℤ) → scalars_differ (p.scalars next) n vs ≡ None → all_agree p (from-number n vs) ≡ true
  unfolding all_agree
  scalars-none n [] h = refl
  scalars-none n (v ∷ vs) h = by (same v (get_or (p.scalars next) n (pos 0))) h (scalars-none (suc n) vs)
    where
      by : (b : Bool) → (if b then scalars_differ (p.scalars next) (suc n) vs else Some (how.Scalar n (get_or (p.scalars next) n (pos 0)) v)) ≡ None
          → (scalars_differ (p.scalars next) (suc n) vs ≡ None → all_agree p (from-number (suc n) vs) ≡ true) → b && all_agree p (from-number (suc n) vs) ≡ true
      by true k rest = rest k
      by false k rest = absurd (cc)

  abbrev pub Differ : List Observation → How → Type 0
  Differ os h = (o : Observation) × IsFirst p os o × (h ≡ how_seen p o)

  scalars-some : (n : ℕ) (vs : List ℤ) (h : How) → scalars_differ (p.scalars next) n vs ≡ Some h → Differ (from-number n vs) h
  unfolding all_agree
  scalars-some n [] h e = absurd (cc)
  scalars-some n (v ∷ vs) h e = by (same v (get_or (p.scalars next) n (pos 0))) refl e (scalars-some (suc n) vs h)
    where
      o : Observation
      o = record { at = next; what = see.Scalar n; value = v }

      more : same v (get_or (p.scalars next) n (pos 0)) ≡ true → Differ (from-number (suc n) vs) h → Differ (o ∷ from-number (suc n) vs) h
      more is d = (d.0, first-front (o ∷ []) (from-number (suc n) vs) d.0 (ap (λ (b : Bool). b && true) is) d.1, d.2)

      by : (b : Bool) → same v (get_or (p.scalars next) n (pos 0)) ≡ b → (if b then scalars_differ (p.scalars next) (suc n) vs else Some (how.Scalar n (get_or (p.scalars next) n (pos 0)) v)) ≡ Some h
          → (scalars_differ (p.scalars next) (suc n) vs ≡ Some h → Differ (from-number (suc n) vs) h) → Differ (o ∷ from-number (suc n) vs) h
      by true is k rest = more is (rest k)
      by false is k rest = (o, record { before = []; after = from-number (suc n) vs; are = refl; agree = refl; differs = is }, sym (some-how k))
        where
          some-how : {a b : How} → ◌≡◌ {A = Option How} (Some a) (Some b) → a ≡ b
          some-how e = cc

  module _ (at : Occurrence) (values : List ℤ) where
    abbrev pub ShownBy : List Observation → Finish → Type 0
    ShownBy os Done = all_agree p os ≡ true
    ShownBy os (Halted halt) = Fine p at values os halt
    ShownBy os Limited = all_agree p os ≡ true

    pub shown-by : (t : Trace) (s : Store) (left : ℕ) → FineTrace p at values t → ShownBy (seen_in t left) (cut t s left 0).ending
    unfolding cut seen_in
    shown-by t s left fine = by (nat_le (length t.entries) left) refl
      where
        all : (halt : Option Halt) → t.halt ≡ halt → length t.entries ≤ left → ShownBy (traces.seen_of t.entries left) (traces.finish_of halt)
        all None is few = let h = shows-all p at values t.entries t.halt left fine few in rw is at h
        all (Some halt) is few = let h = shows-all p at values t.entries t.halt left fine few in rw is at h

        by : (b : Bool) → nat_le (length t.entries) left ≡ b → ShownBy (traces.seen_of t.entries left) (if b then traces.finish_of t.halt else Limited)
        by true e = all t.halt refl (grind (arith, nat_tests))
        by false e = shows-cut p at values t.entries t.halt left fine (grind (arith, nat_tests))

    abbrev pub Deviates : ChunkRun → How → Type 0
    Deviates run h = (d : Deviation) × IsDeviation p run d × (h ≡ how_of p d)

    pub all-nil : (os : List Observation) → all_agree p os ≡ true → all_agree p (os ++ []) ≡ true
    all-nil os h = ap (all_agree p) (append-nil os) ∙ h

    -- a run that is cut short has a deviation
    cut-deviates : (os : List Observation) (e : Finish) (scalars : List ℤ) → ShownBy os e → (e ≡ Done → ⊥) → Deviates (run-by os e scalars) (how_of_finish e)
    cut-deviates os Done scalars h other = absurd (other refl)
    cut-deviates os Limited scalars h other = (Limit, (all-nil os h, refl), refl)
    cut-deviates os (Halted (Trapped trap)) scalars h other = (Halts (Trapped trap), (all-nil os h, refl), refl)
    cut-deviates os (Halted Over) scalars h other = (Halts Over, (all-nil os h, refl), refl)
    cut-deviates os (Halted (Stopped access z line)) scalars h other = (
      Differs (record { at = at; what = see.Address access; value = z }),
      record { before = h.before; after = []; are = append-nil os ∙ h.are; agree = h.agree; differs = h.beyond },
      ap (how_refused access z) h.lined,
    )

    abbrev Fits : Trace → Store → ℕ → Cut → Type 0
    Fits t s left c = c ≡ cut t s left 0

    shown-in : (t : Trace) (s : Store) (left : ℕ) (c : Cut) → FineTrace p at values t → Fits t s left c → ShownBy (seen_in t left) c.ending
    shown-in t s left c fine is = subst (λ (z : Cut). ShownBy (seen_in t left) z.ending) (sym is) (shown-by t s left fine)

    -- an instance that is cut short
    pub followed-cut : (t : Trace) (s : Store) (left : ℕ) (c : Cut) (words : List ℤ) (h : How) → FineTrace p at values t → Fits t s left c → (c.ending ≡ Done → ⊥) → h ≡ how_of_finish c.ending → IsFollowed p next t s left (Err h) words
    followed-cut t s left c words h fine is other how_is =
        subst (λ (z : Cut). Deviates (run-by (seen_in t left) z.ending z.store.scalars) h) is
        (subst (λ (y : How). Deviates (run-by (seen_in t left) c.ending c.store.scalars) y) (sym how_is) (cut-deviates (seen_in t left) c.ending c.store.scalars (shown-in t s left c fine is) other))

    shown-done : (os : List Observation) (e : Finish) → e ≡ Done → ShownBy os e → all_agree p os ≡ true
    shown-done os e is h = subst (ShownBy os) is h

    -- an instance after which a scalar differs
    pub followed-scalar : (t : Trace) (s : Store) (left : ℕ) (c : Cut) (words : List ℤ) (h : How) → FineTrace p at values t → Fits t s left c → c.ending ≡ Done → scalars_differ (p.scalars next) 0 c.store.scalars ≡ Some h → IsFollowed p next t s left (Err h) words
    followed-scalar t s left c words h fine is done differ =
        let first = scalars-some 0 c.store.scalars h differ in
        let os : List Observation = seen_in t left in
        subst (λ (z : Cut). Deviates (run-by os z.ending z.store.scalars) h) is
        (subst (λ (e : Finish). Deviates (run-by os e c.store.scalars) h) (sym done)
        (Differs first.0, first-front os (scalars_seen next c.store.scalars) first.0 (shown-done os c.ending done (shown-in t s left c fine is)) first.1, first.2))

    -- where a run that is done leads
    some-state : (q r : State) → ◌≡◌ {A = Option State} (Some q) (Some r) → q ≡ r
    some-state q r e = cc

    led : (o : Option Reached) (left u : ℕ) (r : State) → ◌≡◌ {A = Option State} (Some r) (enough left o) → r.steps + u ≡ left → same_all r.scalars (p.scalars next) ≡ true
        → ended_with (p.scalars next) (state_of o) ≡ Some (record { memory = r.memory; steps = u })
    led None left u r e sum same = absurd (cc)
    led (Some q) left u r e sum same = by (leb q.steps left) refl e
      where
        by : (b : Bool) → leb q.steps left ≡ b → ◌≡◌ {A = Option State} (Some r) (if b then Some (record { memory = q.store.memory; scalars = q.store.scalars; steps = left - q.steps }) else None)
            → ended_with (p.scalars next) (state_of (Some q)) ≡ Some (record { memory = r.memory; steps = u })
        by false few k = absurd (cc)
        by true few k =
            let is = some-state _ _ k in
            let rest : r.steps ≡ left - q.steps = ap (λ (z : State). z.steps) is in
            let within : q.steps ≤ left = grind (arith, nat_tests) in
            let steps : q.steps ≡ u = omega (arith, rest, within, sum) in
            let agree : same_all q.store.scalars (p.scalars next) ≡ true = ap (λ (z : State). same_all z.scalars (p.scalars next)) (sym is) ∙ same in
            let memory : q.store.memory ≡ r.memory = ap (λ (z : State). z.memory) (sym is) in
            ap (λ (b : Bool). if b then Some (record { memory = q.store.memory; steps = q.steps }) else None) agree
            ∙ ap₂ (λ (m : List ℤ) (n : ℕ). Some (record { memory = m; steps = n })) memory steps

    -- an instance that follows its prediction
    pub followed-done : (t : Trace) (s : Store) (left u : ℕ) (c : Cut) → FineTrace p at values t → Fits t s left c → c.ending ≡ Done → c.left + u ≡ left → length (p.scalars next) ≡ length c.store.scalars
        → scalars_differ (p.scalars next) 0 c.store.scalars ≡ None → IsFollowed p next t s left (Ok u) c.store.memory
    unfolding seen_in reach
    followed-done t s left u c fine is done sum sizes same =
        let os : List Observation = seen_in t left in
        let agree = shown-done os c.ending done (shown-in t s left c fine is) in
        let closing = scalars-none 0 c.store.scalars same in
        let all : all_agree p (os ++ scalars_seen next c.store.scalars) ≡ true = agree-both os (scalars_seen next c.store.scalars) agree closing in
        let follows : FollowsPrediction p (run-by os c.ending c.store.scalars) = subst (λ (e : Finish). FollowsPrediction p (run-by os e c.store.scalars)) (sym done) (all, refl) in
        let expected : same_all c.store.scalars (p.scalars next) ≡ true = sym (scalars-agree p (frame_with next [] plain) [] (p.scalars next) c.store.scalars 0 refl refl sizes) ∙ closing in
        let there : went (all_agree p os) c ≡ Some (record { memory = c.store.memory; scalars = c.store.scalars; steps = c.left }) = ap₂ (λ (a b : Bool). if a && b then Some (record { memory = c.store.memory; scalars = c.store.scalars; steps = c.left }) else None) agree (ap is_done done) in
        let leads : went (all_agree p os) (cut t s left 0) ≡ enough left (reach p t s) = went-reach p t.entries t.halt s left 0 in (
          subst (λ (z : Cut). FollowsPrediction p (run-by os z.ending z.store.scalars)) is follows,
          led (reach p t s) left u (record { memory = c.store.memory; scalars = c.store.scalars; steps = c.left }) (sym there ∙ ap (λ (z : Cut). went (all_agree p os) z) is ∙ leads) sum expected,
        )
