-- What an instance gives depends on what is expected of it alone.
use Rattle.std.proofs.Common.{◌≡◌, refl, ap, ap₂, ◌∙◌, sym, subst, ℕ, ℤ, pos, Bool, true, false, List, [], ◌∷◌, ◌++◌, length, Option, None, Result, Ok, Err}
use Rattle.std.specs.Prelude.{if◌then◌else◌, ◌&&◌}
use Rattle.nest_lang.specs.declared.tree.Access.{Access}
use Rattle.nest_lang.specs.declared.tree.AccessKind.{AccessKind}
use Rattle.nest_lang.specs.declared.tree.AccessKind.TheVariants as kind
use Rattle.nest_lang.specs.declared.tree.Head.{Head}
use Rattle.nest_lang.specs.declared.tree.Head.TheVariants.{For, While}
use Rattle.nest_lang.specs.declared.observe.Seen.TheVariants.{Lower, Trip, Condition}
use Rattle.nest_lang.specs.Values.{same}
use Rattle.nest_lang.specs.Stores.{Store, store_of}
use Rattle.nest_lang.specs.Traces.{Occurrence, Observation, Halt, Trace, traced}
use Rattle.nest_lang.specs.Expressions.{Frame}
use Rattle.nest_lang.specs.Statements.{announced}
use Rattle.nest_lang.specs.Heads.{Yield, Bounds, Tested, as_number, Headed, head_of, head_step}
use Rattle.plain_lemmas.specs.Lists.{Has}
use Rattle.follow.specs.Forecasts.{all_agree, same_all, expectation_at, expects_turn, Forecast}
use Rattle.follow.specs.Reaches.{plus, here, reach, Reached}
use Rattle.follow.specs.Plans.{frame_with, work_trace, item_trace, Work, Runs, Evaluates}
use Rattle.follow.specs.FollowRuns.{state_of, ended_with}
use Rattle.follow.specs.Footprints.{work_accesses}
use Rattle.follow.specs.Verifies.{expected_by, VerifiesOwn}
use Rattle.follow.specs.Alike.{HeadsAlike, YieldsAlike, FollowsAlike}
use Rattle.follow.proofs.ClosingLaws.{same_all-self}
use Rattle.follow.proofs.HeadYieldLaws.{agree-append}
use Rattle.follow.proofs.OtherScalarLaws.{announced-agree}
use Rattle.follow.proofs.VerifiedLaws.{verified-block, verified-head}
use Rattle.follow.proofs.VerifiedTraceLaws.{led, HeadFine, head-fine, instance-fine, leads-on}

module _ (p q : Forecast) (at : Occurrence) (values : List ℤ) where
  -- what one of them verifies is what the other does
  own-alike : (accesses : List Access) → ((a : Access) → Has accesses a → p.interval at a.number ≡ q.interval at a.number) → VerifiesOwn (expectation_at p at) (q.interval at) accesses
  own-alike accesses alike = record { verifies = refl; each = λ a has. by a.kind a.number (alike a has) }
    where
      by : (k : AccessKind) (n : ℕ) → p.interval at n ≡ q.interval at n → expected_by k (expectation_at p at) n ≡ q.interval at n
      by kind.Load n e = e
      by kind.Store n e = e

  -- what a head shows, where it yields something
  after-front : (r : Forecast) (front rest os : List Observation) → os ≡ front ++ rest → all_agree r front ≡ true → all_agree r os ≡ all_agree r rest
  after-front r front rest os is agree = ap (all_agree r) is ∙ agree-append r front rest ∙ ap (λ (b : Bool). b && all_agree r rest) agree

  abbrev bounds : ℤ → ℕ → List Observation
  bounds from count = record { at = at; what = Lower; value = from } ∷ record { at = at; what = Trip; value = pos count } ∷ []

  abbrev test : Bool → List Observation
  test holds = record { at = at; what = Condition; value = as_number holds } ∷ []

  bounds-alike : (from : ℤ) (count : ℕ) → p.lower at ≡ q.lower at → p.trip at.block at.counters ≡ q.trip at.block at.counters → all_agree p (bounds from count) ≡ all_agree q (bounds from count)
  unfolding all_agree
  bounds-alike from count low trip = ap₂ (λ (a b : ℤ). same from a && (same (pos count) b && true)) low trip

  test-alike : (holds : Bool) → expects_turn p at ≡ expects_turn q at → all_agree p (test holds) ≡ all_agree q (test holds)
  unfolding all_agree
  test-alike holds turn = ap (λ (b : Bool). same (as_number holds) (as_number b) && true) turn

  shown-alike : (head : Head) (os : List Observation) (y : Yield) → HeadsAlike p q at head → HeadFine p at values head os (Ok y) → HeadFine q at values head os (Ok y) → all_agree p os ≡ all_agree q os
  shown-alike (For lower upper stride) os (Bounds from count) alike f g =
      after-front p f.0 (bounds from count) os f.1 f.2 ∙ bounds-alike from count alike.0 alike.1 ∙ sym (after-front q g.0 (bounds from count) os g.1 g.2)
  shown-alike (For lower upper stride) os (Tested holds) alike f g = absurd f
  shown-alike (While condition) os (Bounds from count) alike f g = absurd f
  shown-alike (While condition) os (Tested holds) alike f g =
      after-front p f.0 (test holds) os f.1 f.2 ∙ test-alike holds alike ∙ sym (after-front q g.0 (test holds) os g.1 g.2)

  -- where the one step of a head leads
  step-alike : (head : Head) (before os : List Observation) (v : Result Yield Halt) (s : Store) → HeadsAlike p q at head → all_agree p before ≡ true → all_agree q before ≡ true
      → HeadFine p at values head os v → HeadFine q at values head os v → reach p (traced (head_step before os v (λ y. [])) s) s ≡ reach q (traced (head_step before os v (λ y. [])) s) s
  unfolding reach
  step-alike head before os (Ok y) s alike begins starts f g =
      ap₂ (λ (a b : Bool). if a && b then plus 1 (here s) else None) (begins ∙ sym starts) (shown-alike head os y alike f g)
  step-alike head before os (Err halt) s alike begins starts f g = none (all_agree p before && all_agree p os) ∙ sym (none (all_agree q before && all_agree q os))
    where
      none : (b : Bool) → (if b then plus 1 None else None) ≡ None
      none true = refl
      none false = refl

  module _ (m scalars : List ℤ) (first : p.scalars at ≡ scalars) (second : q.scalars at ≡ scalars) where
    abbrev s : Store
    s = store_of m scalars []

    abbrev f : Forecast → Frame
    f r = frame_with at values (expectation_at r at)

    begins : (r : Forecast) → r.scalars at ≡ scalars → all_agree r (announced (f r) s) ≡ true
    begins r is = announced-agree r (f r) s (ap length is) ∙ ap (same_all scalars) is ∙ same_all-self scalars

    announced-alike : announced (f p) s ≡ announced (f q) s
    unfolding announced
    announced-alike = refl

    -- where an instance leads
    reach-alike : (w : Work) → ((a : Access) → Has (work_accesses w) a → p.interval at a.number ≡ q.interval at a.number) → YieldsAlike p q at w → reach p (work_trace (f p) w s) s ≡ reach q (work_trace (f q) w s) s
    unfolding reach
    reach-alike (Runs one rest) alike yields =
        leads-on p at values _ _ s (instance-fine p at values (one ∷ rest) s (begins p first))
        ∙ ap (λ (t : Trace). led t.entries t.halt s) (verified-block at values (expectation_at p at) (q.interval at) (one ∷ rest) s (own-alike (work_accesses (Runs one rest)) alike))
        ∙ sym (leads-on q at values _ _ s (instance-fine q at values (one ∷ rest) s (begins q second)))
    reach-alike (Evaluates head) alike yields =
        let same-head = verified-head at values (expectation_at p at) (q.interval at) head s (own-alike (work_accesses (Evaluates head)) alike) in
        ap₂ (λ (os : List Observation) (h : Headed). reach p (traced (head_step os h.seen h.value (λ y. [])) s) s) announced-alike same-head
        ∙ step-alike head (announced (f q) s) (head_of (f q) head s).seen (head_of (f q) head s).value s yields
        (sym (ap (all_agree p) announced-alike) ∙ begins p first) (begins q second)
        (subst (λ (h : Headed). HeadFine p at values head h.seen h.value) same-head (head-fine p at values head s)) (head-fine q at values head s)

pub follows-alike : FollowsAlike
follows-alike p q first second i m alike after =
    ap₂ (λ (us : List ℤ) (r : Option Reached). ended_with us (state_of r)) after
    (reach-alike p q i.at i.values m (p.scalars i.at) refl (sym alike.scalars) i.work alike.intervals alike.yields
    ∙ ap (λ (us : List ℤ). reach q (item_trace q i (store_of m us [])) (store_of m us [])) alike.scalars)
