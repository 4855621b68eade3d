-- A seat that is split off, and one that is joined, take the core's step: the views that the table then has are those
-- of the state after it.
use Rattle.std.specs.Prelude.{◌≡◌, ℕ, ◌<◌, true, false, [], ◌∷◌, ◌++◌, slice_set}
use Rattle.core_steps.specs.declared.step.Step.TheVariants.{Split, Join}
use Rattle.core_steps.specs.declared.view.View.{View}
use Rattle.core_steps.specs.Numbers.{has}
use Rattle.core_steps.specs.Views.{lending_view, lent_view, joined_view, spent_view}
use Rattle.core_steps.specs.States.{State, views_of}
use Rattle.core_steps.specs.Steps.{Lawful, state_after}
use Rattle.core_steps.specs.Invariant.{At, IsSound}

-- main's view, at the place 0, lends a number, and the new seat's view stands at the end
abbrev pub SplitIsItsStep : Type 0
SplitIsItsStep = (s : State) (w : ℕ) → IsSound s → s.main.posted ≡ true → 0 < w → has w s.main.out ≡ false
    → Lawful (Split w) s × (views_of (state_after (Split w) s) ≡ slice_set (views_of s) 0 (lending_view s.main w) ++ lent_view s.main w ∷ [])

-- main's view takes in the worker's, at the place i, which is spent
abbrev pub JoinIsItsStep : Type 0
JoinIsItsStep = (s : State) (i : ℕ) (v : View) → IsSound s → At (views_of s) i v → 0 < v.number
    → Lawful (Join v.number) s × (views_of (state_after (Join v.number) s) ≡ slice_set (slice_set (views_of s) 0 (joined_view s.main v)) i spent_view)
