-- Where a trace leads within a number of steps.
use Rattle.std.proofs.Common.{◌≡◌, refl, ap, ◌∙◌, sym, subst, ℕ, ℤ, zero, suc, ◌+◌, ◌-◌, leb, Bool, true, false, List, [], ◌∷◌, ◌++◌, length, set, Option, Some, None, arith}
use Rattle.std.specs.Prelude.{if◌then◌else◌, ◌&&◌}
use Rattle.std.proofs.lemmas.Bool.Decides.{nat_tests}
use Rattle.std.proofs.lemmas.Grind.{common_steps}
use Rattle.nest_lang.specs.Stores.{Store, Effect, Nothing, Local, Scalar, Word, effect_on}
use Rattle.nest_lang.specs.Traces.{Entry, Halt, Trace, Cut, cut, seen_of, seen_in}
use Rattle.nest_lang.proofs.CutLaws.{trace_of, cut-stop, cut-cons, cut-end}
use Rattle.orders.specs.Chains.{State, closed}
use Rattle.follow.proofs.Undeviated.{is_done, undeviated}
use Rattle.follow.specs.Forecasts.{same_all, all_agree, Forecast}
use Rattle.follow.specs.Reaches.{plus, here, reach_by, reach, Reached}
use Rattle.follow.specs.Plans.{Item}
use Rattle.follow.specs.FollowRuns.{item_turns}
use Rattle.follow.proofs.HeadYieldLaws.{agree-append}

abbrev pub enough : ℕ → Option Reached → Option State
enough left None = None
enough left (Some r) = if leb r.steps left then Some (record { memory = r.store.memory; scalars = r.store.scalars; steps = left - r.steps }) else None

both-steps : (s : Store) (left n j : ℕ)
    → ◌≡◌ {A = Option State} (if leb (n + j) left then Some (record { memory = s.memory; scalars = s.scalars; steps = left - (n + j) }) else None)
    (if leb n left then (if leb j (left - n) then Some (record { memory = s.memory; scalars = s.scalars; steps = left - n - j }) else None) else None)
both-steps s left n j = grind (arith, nat_tests)

none-if : (b : Bool) → ◌≡◌ {A = Option State} None (if b then None else None)
none-if true = refl
none-if false = refl

pub enough-plus : (left n : ℕ) (o : Option Reached) → enough left (plus n o) ≡ (if leb n left then enough (left - n) o else None)
enough-plus left n None = none-if (leb n left)
enough-plus left n (Some r) = both-steps r.store left n r.steps

pub enough-here : (s : Store) (left : ℕ) → ◌≡◌ {A = Option State} (Some (record { memory = s.memory; scalars = s.scalars; steps = left })) (enough left (here s))
enough-here s left = grind (arith, nat_tests)

enough-one : (n : ℕ) (o : Option Reached) → enough (suc n) (plus 1 o) ≡ enough n o
enough-one n o =
    let a : leb 1 (suc n) ≡ true = grind (arith, nat_tests) in
    let b : suc n - 1 ≡ n = omega arith in
    enough-plus (suc n) 1 o ∙ rw (a, b) refl

enough-none : (o : Option Reached) → enough 0 (plus 1 o) ≡ None
enough-none o = enough-plus 0 1 o

abbrev pub state_in : Store → ℕ → State
state_in s left = record { memory = s.memory; scalars = s.scalars; steps = left }

abbrev pub went : Bool → Cut → Option State
went b c = if b && is_done c.ending then Some (state_in c.store c.left) else None

module _ (p : Forecast) where
  pub went-reach : (es : List Entry) (halt : Option Halt) (s : Store) (left used : ℕ) → went (all_agree p (seen_of es left)) (cut (trace_of es halt) s left used) ≡ enough left (reach_by p es halt s)
  unfolding all_agree
  went-reach [] None s left used = rw cut-end (enough-here s left)
  went-reach [] (Some halt) s left used = rw cut-end refl
  went-reach (e ∷ es) halt s zero used = rw cut-stop (at (all_agree p e.before) (all_agree p e.before && all_agree p e.seen))
    where
      at : (b c : Bool) → ◌≡◌ {A = Option State} (if b && false then Some (state_in s 0) else None) (enough 0 (if c then plus 1 (reach_by p es halt (effect_on s e.effect)) else None))
      at true true = sym (enough-none (reach_by p es halt (effect_on s e.effect)))
      at false true = sym (enough-none (reach_by p es halt (effect_on s e.effect)))
      at true false = refl
      at false false = refl
  went-reach (e ∷ es) halt s (suc n) used =
      rw cut-cons
      (ap (λ (b : Bool). went b (cut (trace_of es halt) (effect_on s e.effect) n (used + 1)))
      (agree-append p (e.before ++ e.seen) (seen_of es n) ∙ ap (λ (b : Bool). b && all_agree p (seen_of es n)) (agree-append p e.before e.seen))
      ∙ at (all_agree p e.before && all_agree p e.seen) (went-reach es halt (effect_on s e.effect) n (used + 1)))
    where
      at : (b : Bool) → went (all_agree p (seen_of es n)) (cut (trace_of es halt) (effect_on s e.effect) n (used + 1)) ≡ enough n (reach_by p es halt (effect_on s e.effect))
          → went (b && all_agree p (seen_of es n)) (cut (trace_of es halt) (effect_on s e.effect) n (used + 1)) ≡ enough (suc n) (if b then plus 1 (reach_by p es halt (effect_on s e.effect)) else None)
      at false is = refl
      at true is = is ∙ sym (enough-one n (reach_by p es halt (effect_on s e.effect)))

  -- a run without deviation reaches the end within its steps, and closes
  pub undeviated-reach : (after : Item → List ℤ) (x : Item) (t : Trace) (s : Store) (left : ℕ) → undeviated p (after x) t s left ≡ closed (item_turns p after) x (enough left (reach p t s))
  unfolding reach seen_in
  undeviated-reach after x t s left =
      at (all_agree p (seen_of t.entries left)) (cut t s left 0) ∙ ap (closed (item_turns p after) x) (went-reach t.entries t.halt s left 0)
    where
      by : (b d e : Bool) (r : State) → same_all r.scalars (after x) ≡ e → (if b && (d && e) then Some r else None) ≡ closed (item_turns p after) x (if b && d then Some r else None)
      by true true e r is = ap (λ (z : Bool). if z then Some r else None) (sym is)
      by true false e r is = refl
      by false d e r is = refl

      at : (b : Bool) (c : Cut) → (if b && (is_done c.ending && same_all c.store.scalars (after x)) then Some (state_in c.store c.left) else None) ≡ closed (item_turns p after) x (went b c)
      at b c = by b (is_done c.ending) (same_all c.store.scalars (after x)) (state_in c.store c.left) refl

  -- what no step changes: that there are no locals, and the number of scalars
  abbrev pub Keeps : ℕ → Store → Type 0
  Keeps n s = (s.locals ≡ []) × (length s.scalars ≡ n)

  effect-keeps : (n : ℕ) (s : Store) (e : Effect) → Keeps n s → Keeps n (effect_on s e)
  effect-keeps n s Nothing h = h
  effect-keeps n s (Local number value) h = (none-set s.locals number value h.0, h.1)
    where
      none-set : (xs : List ℤ) (i : ℕ) (v : ℤ) → xs ≡ [] → set xs i v ≡ []
      none-set xs i v e = rw e refl
  effect-keeps n s (Scalar number value) h = (h.0, length-set s.scalars number value ∙ h.1)
    where
      length-set : (xs : List ℤ) (i : ℕ) (v : ℤ) → length (set xs i v) ≡ length xs
      length-set xs i v = grind (arith, common_steps)
  effect-keeps n s (Word address value) h = h

  abbrev KeepsIn : ℕ → Option Reached → Type 0
  KeepsIn n None = Unit {0}
  KeepsIn n (Some r) = Keeps n r.store

  plus-keeps : (n m : ℕ) (o : Option Reached) → KeepsIn n o → KeepsIn n (plus m o)
  plus-keeps n m None h = h
  plus-keeps n m (Some r) h = h

  if-keeps : (n : ℕ) (b : Bool) (o : Option Reached) → KeepsIn n o → KeepsIn n (if b then o else None)
  if-keeps n true o h = h
  if-keeps n false o h = tt

  reach-keeps-by : (n : ℕ) (es : List Entry) (halt : Option Halt) (s : Store) → Keeps n s → KeepsIn n (reach_by p es halt s)
  reach-keeps-by n [] None s h = h
  reach-keeps-by n [] (Some halt) s h = tt
  reach-keeps-by n (e ∷ es) halt s h = if-keeps n _ _ (plus-keeps n 1 _ (reach-keeps-by n es halt (effect_on s e.effect) (effect-keeps n s e.effect h)))

  pub reach-keeps : (n : ℕ) (t : Trace) (s : Store) (r : Reached) → Keeps n s → reach p t s ≡ Some r → Keeps n r.store
  unfolding reach
  reach-keeps n t s r h e = subst (KeepsIn n) e (reach-keeps-by n t.entries t.halt s h)
