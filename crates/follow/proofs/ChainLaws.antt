-- The chain law.
use Rattle.std.proofs.Common.{subst, ◌<◌, [], length, ◌≡◌, refl, ap, ◌∙◌, sym, ℕ, ℤ, ◌≤◌, ◌-◌, Bool, true, false, List, ◌∷◌, Option, Some, None, arith}
use Rattle.std.specs.Prelude.{if◌then◌else◌, ◌&&◌, nat_le}
use Rattle.std.proofs.lemmas.Bool.Decides.{nat_tests}
use Rattle.std.specs.List.{AllByRecursion}
use Rattle.nest_lang.specs.declared.tree.Loop.{Loop}
use Rattle.nest_lang.specs.declared.state.Outer.{Outer}
use Rattle.nest_lang.specs.Stores.{Store}
use Rattle.nest_lang.specs.Lookups.{plain}
use Rattle.nest_lang.specs.Traces.{Trace, Done, Cut, cut, seen_in}
use Rattle.nest_lang.specs.Turns.{turns_trace}
use Rattle.orders.specs.Runs.{Outcome}
use Rattle.orders.specs.Chains.{State}
use Rattle.follow.proofs.Undeviated.{is_done, undeviated, closed_with}
use Rattle.follow.specs.Forecasts.{same_all, all_agree, Forecast}
use Rattle.follow.specs.Plans.{planned, Item}
use Rattle.follow.specs.FollowRuns.{follow_run}
use Rattle.follow.specs.Successors.{first_scalars, closing_scalars, successor_scalars}
use Rattle.follow.specs.ChainLaw.{ChainHolds, IsChunk, Chains}
use Rattle.follow.proofs.ChainingLaws.{same_all-exact}
use Rattle.follow.proofs.ClosingLaws.{chain-of-chunk, same_all-self}
use Rattle.follow.proofs.DeviatingLaws.{done-is, follows-tests, tests-follow}

-- what the right side of the law gives, where it gives something
from-tests : (b : Bool) (closing : List ℤ) (left : ℕ) (o : Option Outcome) (r : State) → (if b then closed_with closing left o else None) ≡ Some r
    → (b ≡ true) × ((q : Outcome) × (o ≡ Some q) × (q.steps ≤ left) × (r ≡ record { memory = q.memory; scalars = closing; steps = left - q.steps }))
from-tests false closing left o r h = absurd (cc)
from-tests true closing left None r h = absurd (cc)
from-tests true closing left (Some q) r h = at (nat_le q.steps left) refl h
  where
    at : (b : Bool) → nat_le q.steps left ≡ b → (if b then Some (record { memory = q.memory; scalars = closing; steps = left - q.steps }) else None) ≡ Some r
        → (true ≡ true) × ((z : Outcome) × (Some q ≡ Some z) × (z.steps ≤ left) × (r ≡ record { memory = z.memory; scalars = closing; steps = left - z.steps }))
    at true e h = (refl, (q, refl, grind (arith, nat_tests), cc))
    at false e h = absurd (cc)

-- what the left side says, where it says something
from-cut : (a : Bool) (c : Cut) (closing : List ℤ) (r : State) → (if a && (is_done c.ending && same_all c.store.scalars closing) then Some (record { memory = c.store.memory; scalars = c.store.scalars; steps = c.left }) else None) ≡ Some r
    → (c.ending ≡ Done) × (record { memory = c.store.memory; scalars = c.store.scalars; steps = c.left } ≡ r)
from-cut a c closing r h = at a (is_done c.ending) (same_all c.store.scalars closing) refl h
  where
    at : (a b d : Bool) → is_done c.ending ≡ b → (if a && (b && d) then Some (record { memory = c.store.memory; scalars = c.store.scalars; steps = c.left }) else None) ≡ Some r
        → (c.ending ≡ Done) × (record { memory = c.store.memory; scalars = c.store.scalars; steps = c.left } ≡ r)
    at true true true e h = (done-is c.ending e, cc)
    at false b d e h = absurd (cc)
    at true false d e h = absurd (cc)
    at true true false e h = absurd (cc)

-- a chunk's two sides, as one equation
sides : (p : Forecast) (k : ℕ) (loops : List Loop) (o : Outer) (c : ℕ) (s : Store) (left : ℕ) (x y : Item) → IsChunk p loops o c (length s.scalars) x y → left < k → s.locals ≡ []
    → undeviated p (p.scalars y.at) (turns_trace plain k loops o c s) s left
    ≡ (if same_all s.scalars (p.scalars x.at) then closed_with (p.scalars y.at) left (follow_run p (successor_scalars p loops o c) (planned p loops o c) s.memory) else None)
sides p k loops o c s left x y chunk bound bare =
    let is = chunk.begins.1 in
    let closing_is : closing_scalars p loops o c ≡ p.scalars y.at = ap (first_scalars p) chunk.goes_on.1 in
    let sizes = subst (AllByRecursion (λ (i : Item). length (p.scalars i.at) ≡ length s.scalars)) is chunk.sizes in
    ap (λ (z : List ℤ). undeviated p z (turns_trace plain k loops o c s) s left) (sym closing_is)
    ∙ chain-of-chunk p k loops o c s left x chunk.begins.0 chunk.turns is bound bare sizes
    ∙ ap (λ (z : List ℤ). if same_all s.scalars (p.scalars x.at) then closed_with z left (follow_run p (successor_scalars p loops o c) (x ∷ chunk.begins.0) s.memory) else None) closing_is
    ∙ ap (λ (is : List Item). if same_all s.scalars (p.scalars x.at) then closed_with (p.scalars y.at) left (follow_run p (successor_scalars p loops o c) is s.memory) else None) (sym is)

pub chain-law : ChainHolds
chain-law p k loops o c s left x y chunk bound bare = (
  (
    λ f.
        let some = if-some (follows-tests p y.at t s left chunk.size f) in
        let right = from-tests (same_all s.scalars (p.scalars x.at)) (p.scalars y.at) left run _ (sym law ∙ some) in
        (right.1.0, record { begins = same_all-exact s.scalars (p.scalars x.at) right.0; follows = right.1.1; suffice = right.1.2 }),
    λ r. tests-follow p y.at t s left chunk.size (if-test _ _ (right-side r.0 r.1)),
  ),
  λ r h.
      let here = from-cut (all_agree p (seen_in t left)) (cut t s left 0) (p.scalars y.at) _ (right-side r h) in
      record { memory = ap (λ (z : State). z.memory) here.1; scalars = ap (λ (z : State). z.scalars) here.1; steps = ap (λ (z : State). z.steps) here.1; finish = here.0 },
)
  where
    t : Trace
    t = turns_trace plain k loops o c s

    run : Option Outcome
    run = follow_run p (successor_scalars p loops o c) (planned p loops o c) s.memory

    law : undeviated p (p.scalars y.at) t s left ≡ (if same_all s.scalars (p.scalars x.at) then closed_with (p.scalars y.at) left run else None)
    law = sides p k loops o c s left x y chunk bound bare

    if-some : {A : Type 0} {b : Bool} {a : A} → b ≡ true → (if b then Some a else None) ≡ Some a
    if-some e = rw e refl

    if-test : (b : Bool) (a : State) {r : State} → (if b then Some a else None) ≡ Some r → b ≡ true
    if-test true a e = refl
    if-test false a e = absurd (cc)

    right-side : (r : Outcome) → Chains p loops o c s left x r → undeviated p (p.scalars y.at) t s left ≡ Some (record { memory = r.memory; scalars = p.scalars y.at; steps = left - r.steps })
    right-side r h =
        let begins : same_all s.scalars (p.scalars x.at) ≡ true = ap (same_all s.scalars) (sym h.begins) ∙ same_all-self s.scalars in
        let enough : nat_le r.steps left ≡ true = let fits = h.suffice in grind (arith, nat_tests) in
        law
        ∙ ap (λ (b : Bool). if b then closed_with (p.scalars y.at) left run else None) begins
        ∙ ap (closed_with (p.scalars y.at) left) h.follows
        ∙ ap (λ (b : Bool). if b then Some (record { memory = r.memory; scalars = p.scalars y.at; steps = left - r.steps }) else None) enough
