-- How traces lead on.
use Rattle.std.proofs.Common.{ℤ, ◌≡◌, refl, ap, ◌∙◌, sym, ℕ, ◌+◌, Bool, true, false, List, [], ◌∷◌, ◌++◌, Option, Some, None, Result, Ok, Err, arith}
use Rattle.std.specs.Prelude.{if◌then◌else◌, ◌&&◌}
use Rattle.nest_lang.specs.declared.tree.Head.{Head}
use Rattle.nest_lang.specs.declared.tree.Part.{Part}
use Rattle.nest_lang.specs.declared.tree.Stmt.{Stmt}
use Rattle.nest_lang.specs.Lookups.{plain}
use Rattle.nest_lang.specs.Loops.{Around, frame_of}
use Rattle.nest_lang.specs.Stores.{Store, effect_on}
use Rattle.nest_lang.specs.Traces.{Occurrence, Observation, Entry, Halt, Trace, joined, and_then, in_turn, traced, after_all}
use Rattle.nest_lang.specs.Expressions.{Frame}
use Rattle.nest_lang.specs.Statements.{block_trace, instance_trace}
use Rattle.nest_lang.specs.Heads.{Yield, head_step}
use Rattle.follow.proofs.VerifyingLaws.{verified-plain}
use Rattle.follow.specs.Forecasts.{expectation_at, all_agree, Forecast}
use Rattle.follow.specs.Reaches.{plus, onward, here, reach_by, reach, Reached}
use Rattle.follow.specs.Plans.{occurrence, frame_with, work_trace, item_trace, plan_block, chain, Item, Runs, Evaluates}

pub plus-plus : (m n : ℕ) (o : Option Reached) → plus m (plus n o) ≡ plus (m + n) o
plus-plus m n None = refl
plus-plus m n (Some r) =
    let e : m + (n + r.steps) ≡ m + n + r.steps = omega arith in
    rw e refl

pub plus-zero : (o : Option Reached) → plus 0 o ≡ o
plus-zero None = refl
plus-zero (Some r) =
    let e : 0 + r.steps ≡ r.steps = omega arith in
    rw e refl

pub onward-plus : (n : ℕ) (o : Option Reached) (go : Store → Option Reached) → onward (plus n o) go ≡ plus n (onward o go)
onward-plus n None go = refl
onward-plus n (Some r) go = sym (plus-plus n r.steps (go r.store))

pub onward-same : (o : Option Reached) (f g : Store → Option Reached) → ((u : Store) → f u ≡ g u) → onward o f ≡ onward o g
onward-same None f g same = refl
onward-same (Some r) f g same = ap (plus r.steps) (same r.store)

pub onward-onward : (o : Option Reached) (f g : Store → Option Reached) → onward (onward o f) g ≡ onward o (λ u. onward (f u) g)
onward-onward None f g = refl
onward-onward (Some r) f g = onward-plus r.steps (f r.store) g

pub onward-here : (o : Option Reached) → onward o here ≡ o
onward-here None = refl
onward-here (Some r) =
    let e : r.steps + 0 ≡ r.steps = omega arith in
    rw e refl

module _ (p : Forecast) where
  if-onward : (b : Bool) (o more : Option Reached) (go : Store → Option Reached) → more ≡ onward o go → (if b then plus 1 more else None) ≡ onward (if b then plus 1 o else None) go
  if-onward false o more go e = refl
  if-onward true o more go e = ap (plus 1) e ∙ sym (onward-plus 1 o go)

  -- a trace of two parts leads where the second leads from where the first leads
  pub reach-joined : (halt : Option Halt) (es : List Entry) (go : Store → Trace) (s : Store) → reach p (joined halt es (go (after_all s es))) s ≡ onward (reach_by p es halt s) (λ u. reach p (go u) u)
  unfolding reach
  reach-joined (Some halt) [] go s = refl
  reach-joined None [] go s = sym (plus-zero _)
  reach-joined (Some halt) (e ∷ es) go s = if-onward _ _ _ _ (reach-joined (Some halt) es go (effect_on s e.effect))
  reach-joined None (e ∷ es) go s = if-onward _ _ _ _ (reach-joined None es go (effect_on s e.effect))

  pub reach-and_then : (t : Trace) (go : Store → Trace) (s : Store) → reach p (and_then s t go) s ≡ onward (reach p t s) (λ u. reach p (go u) u)
  unfolding reach
  reach-and_then t go s = reach-joined t.halt t.entries go s

  pub chain-append : (xs ys : List Item) (s : Store) → chain p (xs ++ ys) s ≡ onward (chain p xs s) (chain p ys)
  chain-append [] ys s = sym (plus-zero _)
  chain-append (x ∷ xs) ys s =
      onward-same _ _ _ (λ u. chain-append xs ys u) ∙ sym (onward-onward (reach p (item_trace p x s) s) (chain p xs) (chain p ys))

  -- a trace leads where these instances lead one after another
  abbrev pub Leads : (Store → Trace) → List Item → Type 0
  Leads f xs = (s : Store) → reach p (f s) s ≡ chain p xs s

  pub leads-ends : Leads (in_turn []) []
  unfolding reach
  leads-ends s = refl

  pub leads-then : (f g : Store → Trace) (xs ys : List Item) → Leads f xs → Leads g ys → Leads (λ s. and_then s (f s) g) (xs ++ ys)
  leads-then f g xs ys first rest s =
      reach-and_then (f s) g s
      ∙ ap (λ (o : Option Reached). onward o (λ u. reach p (g u) u)) (first s)
      ∙ onward-same (chain p xs s) _ _ rest
      ∙ sym (chain-append xs ys s)

  pub leads-only : (f : Store → Trace) (xs : List Item) → Leads f xs → Leads (in_turn (f ∷ [])) xs
  leads-only f xs first s =
      reach-and_then (f s) (in_turn []) s
      ∙ onward-same (reach p (f s) s) _ here leads-ends
      ∙ onward-here (reach p (f s) s)
      ∙ first s

  reach-none : (f : Frame) (s : Store) → reach p (instance_trace f [] s) s ≡ here s
  unfolding reach instance_trace block_trace
  reach-none f s = refl

  pub leads-block : (part : Part) (level : ℕ) (a : Around) (block : List Stmt) → Leads (instance_trace (frame_of plain part level a) block) (plan_block part level a block)
  leads-block part level a [] s = reach-none (frame_of plain part level a) s
  leads-block part level a (x ∷ xs) s =
      sym (verified-plain p (occurrence part level a) a.values (Runs x xs) s) ∙ sym (onward-here _)

  -- from a head on, evaluated with its addresses verified
  pub from-head : (at : Occurrence) (values : List ℤ) (head : Head) (rest : List Item) (s : Store)
      → onward (reach p (work_trace (frame_with at values plain) (Evaluates head) s) s) (chain p rest) ≡ onward (reach p (work_trace (frame_with at values (expectation_at p at)) (Evaluates head) s) s) (chain p rest)
  from-head at values head rest s = ap (λ (o : Option Reached). onward o (chain p rest)) (sym (verified-plain p at values (Evaluates head) s))

  -- a head that is evaluated leads on by what it yields
  pub reach-head : (before seen : List Observation) (value : Result Yield Halt) (go : Yield → List (Store → Trace)) (rest : List Item) (s : Store)
      → ((y : Yield) → value ≡ Ok y → all_agree p seen ≡ true → Leads (in_turn (go y)) rest)
      → reach p (traced (head_step before seen value go) s) s ≡ onward (reach p (traced (head_step before seen value (λ y. [])) s) s) (chain p rest)
  unfolding reach
  reach-head before seen (Err halt) go rest s each = at (all_agree p before && all_agree p seen)
    where
      at : (b : Bool) → (if b then plus 1 None else None) ≡ onward (if b then plus 1 None else None) (chain p rest)
      at true = refl
      at false = refl
  reach-head before seen (Ok y) go rest s each = at (all_agree p before) (all_agree p seen) refl
    where
      at : (b c : Bool) → all_agree p seen ≡ c
          → (if b && c then plus 1 (reach_by p (in_turn (go y) s).entries (in_turn (go y) s).halt s) else None) ≡ onward (if b && c then plus 1 (here s) else None) (chain p rest)
      at true true e = ap (plus 1) (each y refl e s)
      at true false e = refl
      at false c e = refl
