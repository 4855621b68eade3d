-- A chunk's run has one deviation, or the chunk follows its prediction.
use Rattle.std.proofs.Common.{◌≡◌, refl, ap, ap₂, ◌∙◌, sym, subst, ℕ, ◌⊎◌, inl, inr, Bool, true, false, true≢false, List, [], ◌∷◌, ◌++◌, length, Option, Some, None}
use Rattle.std.specs.Prelude.{◌&&◌}
use Rattle.std.proofs.lemmas.Bool.{and_parts}
use Rattle.nest_lang.specs.Stores.{Store}
use Rattle.nest_lang.specs.Lookups.{plain}
use Rattle.nest_lang.specs.Traces.{Occurrence, Observation, Halt, Trace, Finish, Done, Halted, Limited, Cut, cut, seen_in}
use Rattle.nest_lang.proofs.RunLaws.{cut-sizes}
use Rattle.follow.proofs.Undeviated.{is_done}
use Rattle.follow.proofs.HeadYieldLaws.{agree-append}
use Rattle.follow.proofs.OtherScalarLaws.{scalars-agree}
use Rattle.follow.specs.Forecasts.{agrees, same_all, all_agree, Forecast}
use Rattle.follow.specs.Plans.{frame_with}
use Rattle.follow.specs.ChunkRuns.{scalars_seen, closing_at, chunk_run}
use Rattle.follow.specs.Deviations.{IsDeviation, FollowsPrediction, DeviationIsOne, DeviatesOrFollows, NotBoth, IsFirst, Deviation, Differs, Halts, Limit}

module _ (p : Forecast) where
  agree-cons : (o : Observation) (os : List Observation) → agrees p o ≡ true → all_agree p os ≡ true → all_agree p (o ∷ os) ≡ true
  unfolding all_agree
  agree-cons o os h all = ap₂ (λ (a b : Bool). a && b) h all

  -- all agree, or there is a first that doesn't
  first-or-all : (os : List Observation) → ((o : Observation) × IsFirst p os o) ⊎ (all_agree p os ≡ true)
  unfolding all_agree
  first-or-all [] = inr refl
  first-or-all (o ∷ os) = at (agrees p o) refl (first-or-all os)
    where
      at : (b : Bool) → agrees p o ≡ b → ((q : Observation) × IsFirst p os q) ⊎ (all_agree p os ≡ true) → ((q : Observation) × IsFirst p (o ∷ os) q) ⊎ (all_agree p (o ∷ os) ≡ true)
      at false e more = inl (o, record { before = []; after = os; are = refl; agree = refl; differs = e })
      at true e (inl (q, f)) = inl (q, record { before = o ∷ f.before; after = f.after; are = ap (λ (xs : List Observation). o ∷ xs) f.are; agree = agree-cons o f.before e f.agree; differs = f.differs })
      at true e (inr all) = inr (agree-cons o os e all)

  head-of : Observation → List Observation → Observation
  head-of d [] = d
  head-of d (x ∷ xs) = x

  rest-of : List Observation → List Observation
  rest-of [] = []
  rest-of (x ∷ xs) = xs

  agree-first : (o : Observation) (os : List Observation) → all_agree p (o ∷ os) ≡ true → (agrees p o ≡ true) × (all_agree p os ≡ true)
  unfolding all_agree
  agree-first o os h = and_parts (agrees p o) (all_agree p os) h

  -- the first is one
  one-first : (bs cs : List Observation) (o q : Observation) (us vs : List Observation) → bs ++ o ∷ us ≡ cs ++ q ∷ vs
      → all_agree p bs ≡ true → agrees p o ≡ false → all_agree p cs ≡ true → agrees p q ≡ false → o ≡ q
  unfolding head-of rest-of
  one-first [] [] o q us vs e hb ho hc hq = ap (head-of o) e
  one-first [] (c ∷ cs) o q us vs e hb ho hc hq =
      absurd (true≢false (sym (subst (λ (z : Observation). agrees p z ≡ true) (sym (ap (head-of o) e)) (agree-first c cs hc).0) ∙ ho))
  one-first (b ∷ bs) [] o q us vs e hb ho hc hq =
      absurd (true≢false (sym (subst (λ (z : Observation). agrees p z ≡ true) (ap (head-of b) e) (agree-first b bs hb).0) ∙ hq))
  one-first (b ∷ bs) (c ∷ cs) o q us vs e hb ho hc hq = one-first bs cs o q us vs (ap rest-of e) (agree-first b bs hb).1 ho (agree-first c cs hc).1 hq

  first-is-one : (os : List Observation) (o q : Observation) → IsFirst p os o → IsFirst p os q → o ≡ q
  first-is-one os o q f g = one-first f.before g.before o q f.after g.after (sym f.are ∙ g.are) f.agree f.differs g.agree g.differs

  first-not-all : (os : List Observation) (o : Observation) → IsFirst p os o → all_agree p os ≡ true → ⊥
  first-not-all os o f all =
      let parts = and_parts (all_agree p f.before) (all_agree p (o ∷ f.after)) (sym (agree-append p f.before (o ∷ f.after)) ∙ ap (all_agree p) (sym f.are) ∙ all) in
      true≢false (sym (agree-first o f.after parts.1).0 ∙ f.differs)

  -- the group of closing scalars agrees where they are the expected ones
  closes-agree : (next : Occurrence) (os : List Observation) (c : Cut) → length (p.scalars next) ≡ length c.store.scalars
      → all_agree p (os ++ closing_at next c.ending c.store.scalars) && is_done c.ending ≡ all_agree p os && (is_done c.ending && same_all c.store.scalars (p.scalars next))
  unfolding all_agree
  closes-agree next os c sizes = at c.ending
    where
      and-false : (b d : Bool) → b && false ≡ d && false
      and-false true true = refl
      and-false true false = refl
      and-false false true = refl
      and-false false false = refl

      and-true : (a b : Bool) → (a && b) && true ≡ a && b
      and-true true true = refl
      and-true true false = refl
      and-true false b = refl

      at : (e : Finish) → all_agree p (os ++ closing_at next e c.store.scalars) && is_done e ≡ all_agree p os && (is_done e && same_all c.store.scalars (p.scalars next))
      at Done =
          ap (λ (b : Bool). b && true) (agree-append p os (scalars_seen next c.store.scalars))
          ∙ and-true (all_agree p os) (all_agree p (scalars_seen next c.store.scalars))
          ∙ ap (λ (b : Bool). all_agree p os && b) (scalars-agree p (frame_with next [] plain) [] (p.scalars next) c.store.scalars 0 refl refl sizes)
      at (Halted halt) = and-false _ _
      at Limited = and-false _ _

  follows-test : (next : Occurrence) (t : Trace) (s : Store) (left : ℕ) → length (p.scalars next) ≡ length s.scalars
      → all_agree p (chunk_run next t s left).observations && is_done (chunk_run next t s left).finish
      ≡ all_agree p (seen_in t left) && (is_done (cut t s left 0).ending && same_all (cut t s left 0).store.scalars (p.scalars next))
  follows-test next t s left sizes = closes-agree next (seen_in t left) (cut t s left 0) (sizes ∙ sym (cut-sizes t s left 0).1)

pub done-is : (e : Finish) → is_done e ≡ true → e ≡ Done
done-is Done h = refl
done-is (Halted halt) h = absurd (cc)
done-is Limited h = absurd (cc)

-- a run follows its prediction exactly where it is undeviated
pub follows-tests : (p : Forecast) (next : Occurrence) (t : Trace) (s : Store) (left : ℕ) → length (p.scalars next) ≡ length s.scalars → FollowsPrediction p (chunk_run next t s left)
    → all_agree p (seen_in t left) && (is_done (cut t s left 0).ending && same_all (cut t s left 0).store.scalars (p.scalars next)) ≡ true
follows-tests p next t s left sizes f = sym (follows-test p next t s left sizes) ∙ ap₂ (λ (a b : Bool). a && b) f.0 (ap is_done f.1)

pub tests-follow : (p : Forecast) (next : Occurrence) (t : Trace) (s : Store) (left : ℕ) → length (p.scalars next) ≡ length s.scalars
    → all_agree p (seen_in t left) && (is_done (cut t s left 0).ending && same_all (cut t s left 0).store.scalars (p.scalars next)) ≡ true → FollowsPrediction p (chunk_run next t s left)
tests-follow p next t s left sizes h =
    let parts = and_parts (all_agree p (chunk_run next t s left).observations) (is_done (chunk_run next t s left).finish) (follows-test p next t s left sizes ∙ h) in
    (parts.0, done-is (cut t s left 0).ending parts.1)

finish-halts : Finish → Option Halt
finish-halts Done = None
finish-halts (Halted halt) = Some halt
finish-halts Limited = None

some-halt : (h k : Halt) → ◌≡◌ {A = Option Halt} (Some h) (Some k) → h ≡ k
some-halt h k e = cc

halted-limited : (h : Halt) → Halted h ≡ Limited → ⊥
halted-limited h e = cc

halted-done : (h : Halt) → Halted h ≡ Done → ⊥
halted-done h e = cc

limited-done : Limited ≡ Done → ⊥
limited-done e = cc

pub deviation-is-one : DeviationIsOne
unfolding finish-halts
deviation-is-one p run (Differs o) (Differs q) d e = ap Differs (first-is-one p run.observations o q d e)
deviation-is-one p run (Differs o) (Halts halt) d e = absurd (first-not-all p run.observations o d e.0)
deviation-is-one p run (Differs o) Limit d e = absurd (first-not-all p run.observations o d e.0)
deviation-is-one p run (Halts halt) (Differs q) d e = absurd (first-not-all p run.observations q e d.0)
deviation-is-one p run (Halts h) (Halts k) d e = ap Halts (some-halt h k (ap finish-halts (sym d.1 ∙ e.1)))
deviation-is-one p run (Halts h) Limit d e = absurd (halted-limited h (sym d.1 ∙ e.1))
deviation-is-one p run Limit (Differs q) d e = absurd (first-not-all p run.observations q e d.0)
deviation-is-one p run Limit (Halts k) d e = absurd (halted-limited k (sym e.1 ∙ d.1))
deviation-is-one p run Limit Limit d e = refl

pub deviates-or-follows : DeviatesOrFollows
deviates-or-follows p run = at (first-or-all p run.observations) run.finish refl
  where
    at : ((o : Observation) × IsFirst p run.observations o) ⊎ (all_agree p run.observations ≡ true) → (e : Finish) → run.finish ≡ e → ((d : Deviation) × IsDeviation p run d) ⊎ FollowsPrediction p run
    at (inl (o, f)) e is = inl (Differs o, f)
    at (inr all) Done is = inr (all, is)
    at (inr all) (Halted halt) is = inl (Halts halt, (all, is))
    at (inr all) Limited is = inl (Limit, (all, is))

pub not-both : NotBoth
not-both p run (Differs o) d f = first-not-all p run.observations o d f.0
not-both p run (Halts halt) d f = halted-done halt (sym d.1 ∙ f.1)
not-both p run Limit d f = limited-done (sym d.1 ∙ f.1)
