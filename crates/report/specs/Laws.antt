-- What holds of longest runs and of outcomes.
use Rattle.std.specs.Prelude.{◌≡◌, ℕ, ℤ, List}
use Rattle.nest_lang.specs.declared.budget.Ending.{Ending}
use Rattle.nest_lang.specs.Stores.{Store}
use Rattle.report.specs.LongestRuns.{LongestRuns}
use Rattle.report.specs.Outcomes.{IsOutcome}

-- exactly one value is so
abbrev pub ExactlyOne : {X : Type 0} → (X → Type 0) → Type 0
ExactlyOne {X} P = (x : X) × P x × ((y : X) → P y → y ≡ x)

-- each memory has exactly one list of longest runs
abbrev pub OneListOfRuns : Type 0
OneListOfRuns = (memory : List ℤ) → ExactlyOne (LongestRuns memory)

-- each run has exactly one outcome
abbrev pub OneOutcome : Type 0
OneOutcome = (names : List (List ℕ)) (store : Store) (ending : Ending) (steps : ℕ) → ExactlyOne (IsOutcome names store ending steps)
