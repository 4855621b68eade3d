-- What the rounds touch.
use Rattle.std.specs.Prelude.{◌≡◌, ℕ, ◌<◌, true, List}
use Rattle.core_steps.specs.declared.view.View.{View}
use Rattle.core_steps.specs.Numbers.{has}
use Rattle.core_steps.specs.Views.{may_load, may_store}

-- the worker may load and store at all 1,024 words
abbrev pub MayTouchAll : View → Type 0
MayTouchAll v = (a : ℕ) → a < 1024 → (may_load v a ≡ true) × (may_store v a ≡ true)

-- the list has each number below n, and no other
abbrev pub AreBelow : ℕ → List ℕ → Type 0
AreBelow n xs = ((a : ℕ) → a < n → has a xs ≡ true) × ((a : ℕ) → has a xs ≡ true → a < n)
