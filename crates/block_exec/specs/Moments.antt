-- Moments of a run, and what it is to run a trace from one to another.
use Rattle.std.specs.Prelude.{◌≡◌, ◌<◌, ◌-◌, ◌+◌, ◌++◌, min, ℕ, zero, suc, ℤ, List, [], Option, Some, None, Result}
use Rattle.nest_lang.specs.declared.tree.Head.{Head}
use Rattle.nest_lang.specs.Stores.{Store}
use Rattle.nest_lang.specs.Traces.{Observation, Halt, Trace, Finish, cut_of, cut, seen_in}
use Rattle.nest_lang.specs.Expressions.{Frame}
use Rattle.nest_lang.specs.Statements.{announced}
use Rattle.nest_lang.specs.Heads.{Yield, head_of}
use Rattle.block_exec.specs.Watches.{Chain}

-- a moment of a run: the store, the steps left and used of its budget, and its watch
pub record Moment (W : Type 0) : Type 0 where
  pub store : Store
  pub left : ℕ
  pub used : ℕ
  pub watch : W

abbrev pub moment : {W : Type 0} → Store → ℕ → ℕ → W → Moment W
moment store left used watch = record { store = store; left = left; used = used; watch = watch }

-- a trace was run from one moment to another, as far as the steps went, and finished so: the second is
-- the cut of the trace from the first, and the watch was shown what these steps show, in order
pub record Ran {W : Type 0} (may : W → Observation → W → Type 0) (trace : Store → Trace) (a b : Moment W) (finish : Finish) : Type 0 where
  pub cut : cut_of b.store b.left b.used finish ≡ cut (trace a.store) a.store a.left a.used
  pub shown : Chain may a.watch (seen_in (trace a.store) a.left) b.watch

-- the same of a trace in which each `while` has at most k turns, for every k that is more than the steps
-- that were left
abbrev pub RanWithin : {W : Type 0} → (W → Observation → W → Type 0) → (ℕ → Store → Trace) → Moment W → Moment W → Finish → Type 0
RanWithin may trace a b finish = (k : ℕ) → a.left < k → Ran may (trace k) a b finish

-- a head is evaluated where a step is left for it
abbrev pub where_left : {A : Type 0} → ℕ → A → Option A
where_left zero a = None
where_left (suc n) a = Some a

-- and what it then shows
abbrev pub shown_where_left : ℕ → List Observation → List Observation
shown_where_left zero os = []
shown_where_left (suc n) os = os

-- a head was evaluated between two moments, where a step was left for it, and yields this (nothing where
-- none was left): it changes nothing, takes one step, and shows that it is due and then what it shows
pub record Evaluated {W : Type 0} (may : W → Observation → W → Type 0) (f : Frame) (head : Head) (a b : Moment W) (yields : Option (Result Yield Halt)) : Type 0 where
  pub value : yields ≡ where_left a.left (head_of f head a.store).value
  pub store : b.store ≡ a.store
  pub left : b.left ≡ a.left - 1
  pub used : b.used ≡ a.used + min 1 a.left
  pub shown : Chain may a.watch (announced f a.store ++ shown_where_left a.left (head_of f head a.store).seen) b.watch
