-- What all workers of a phase left: the law of a phase.
use Rattle.std.specs.Prelude.{◌≡◌, ℕ, ℤ, ◌<◌, ◌+◌, ◌↔◌, Bool, true, false, IsTrue, MatchBool, Some, None, List, [], ◌∷◌, map, length}
use Rattle.core_steps.specs.declared.plan.Plan.{Plan}
use Rattle.core_steps.specs.declared.view.View.{View}
use Rattle.core_steps.specs.Views.{overlaid, Holds}
use Rattle.orders.specs.Runs.{Machine, follow}
use Rattle.plain_lemmas.specs.Lists.{Has}
use Rattle.orders.specs.Tiles.{flat}
use Rattle.shared_words.specs.Memories.{signed}
use Rattle.shared_words.specs.Calls.{EndsPhase}
use Rattle.verified_turns.specs.Progress.{Fits, HasEnded, HasFailed, Tried}

-- a worker of this plan, from this base, that has nothing left to do
pub record Finished {X : Type 0} (s : Machine X) (closes : X → Type 0) (plan : Plan) (lists : List (List X)) (base : List ℕ) (v : View) : Type 0 where
  pub steps : ℕ
  pub same_base : v.base ≡ base
  pub same_plan : v.plan ≡ plan
  pub ended : HasEnded s closes lists v steps

abbrev pub AllFinished : {X : Type 0} → Machine X → (X → Type 0) → Plan → List (List X) → List ℕ → List View → Type 0
AllFinished s closes plan lists base [] = Unit {0}
AllFinished s closes plan lists base (v ∷ vs) = Finished s closes plan lists base v × AllFinished s closes plan lists base vs

abbrev pub held_of : List View → List (List ℕ)
held_of vs = map (λ (v : View). v.held) vs

abbrev pub own_of : List View → List (List (ℕ × ℕ))
own_of vs = map (λ (v : View). v.own) vs

-- the steps of all of them
abbrev pub all_steps : {X : Type 0} (s : Machine X) (closes : X → Type 0) (plan : Plan) (lists : List (List X)) (base : List ℕ) (vs : List View) → AllFinished s closes plan lists base vs → ℕ
all_steps s closes plan lists base [] h = 0
all_steps s closes plan lists base (v ∷ vs) h = h.0.steps + all_steps s closes plan lists base vs h.1

-- a worker of this plan, from this base, that failed
pub record SomeFailed {X : Type 0} (s : Machine X) (plan : Plan) (lists : List (List X)) (base : List ℕ) : Type 0 where
  pub view : View
  pub at : X
  pub steps : ℕ
  pub same_base : view.base ≡ base
  pub same_plan : view.plan ≡ plan
  pub failed : HasFailed s lists view at steps

-- main took over the views of so many workers that ended, and nothing else; these took so many steps
pub record Joined {X : Type 0} (s : Machine X) (closes : X → Type 0) (lists : List (List X)) (m : View) (count steps : ℕ) : Type 0 where
  pub views : List View
  pub all : AllFinished s closes m.plan lists m.base views
  pub held : m.held ≡ flat (held_of views)
  pub own : m.own ≡ flat (own_of views)
  pub sum : steps ≡ all_steps s closes m.plan lists m.base views all
  pub known : 0 < count → Tried m (length m.plan.tiles)

-- main took over the views of so many workers, each of which ended, failed or stopped: without a failure and a stop all
-- ended, and after a failure one of them failed
pub record Gathered {X : Type 0} (s : Machine X) (closes : X → Type 0) (lists : List (List X)) (m : View) (count steps : ℕ) : Type 0 where
  pub joined : m.failed ≡ false → m.seen ≡ false → Joined s closes lists m count steps
  pub broken : m.failed ≡ true → SomeFailed s m.plan lists m.base

-- main ended the phase, and the flag was raised in it or not
abbrev pub EndsRaised : View → Bool → View → Type 0
EndsRaised m raised n = (flag : ℕ) × (IsTrue raised ↔ (flag ≡ m.epoch)) × EndsPhase m flag n

-- the tiles' lists, one tile after another, were followed from these words to those, in so many steps
pub record RanTogether {X : Type 0} (s : Machine X) (closes : X → Type 0) (lists : List (List X)) (words after : List ℤ) (steps : ℕ) : Type 0 where
  pub run : follow s (flat lists) words ≡ Some (record { memory = after; steps = steps })
  pub each : (x : X) → Has (flat lists) x → closes x

-- main holds every tile of the plan, and the tiles' lists, one tile after another, lead from its base to that of the view
-- after the phase, in so many steps
pub record AllRan {X : Type 0} (s : Machine X) (closes : X → Type 0) (lists : List (List X)) (m n : View) (steps : ℕ) : Type 0 where
  pub held : (k : ℕ) → k < length m.plan.tiles → Holds m k
  pub together : RanTogether s closes lists (signed m.base) (signed n.base) steps

-- where the flag was raised, the run of the tiles' lists, one tile after another, from main's base is None; and else all
-- ran
abbrev pub RanAs : {X : Type 0} → Machine X → (X → Type 0) → List (List X) → View → View → ℕ → Bool → Type 0
RanAs s closes lists m n steps raised = MatchBool raised
    (follow s (flat lists) (signed m.base) ≡ None)
    (AllRan s closes lists m n steps)

-- the law of a phase, of main's view m before its end, which took over what the workers did, and n after it, whose base
-- has what main took over laid over it: whatever order the workers took their tiles in, and whatever ran beside what, every
-- tile is held, and the words are those that the tiles leave one after another, in as many steps; and a raised flag means
-- that these are None
abbrev pub PhaseLaw : {X : Type 0} → Machine X → (X → Type 0) → Type 0
PhaseLaw {X} s closes =
    (m n : View) (lists : List (List X)) (count steps : ℕ) (raised : Bool) → length m.base ≡ s.size → length lists ≡ length m.plan.tiles → Fits s m.plan lists
    → 0 < count → Gathered s closes lists m count steps → EndsRaised m raised n → n.base ≡ overlaid m.own m.base → RanAs s closes lists m n steps raised
