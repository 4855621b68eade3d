-- Outcomes: the lines that say how a run ended.
use Rattle.std.specs.Prelude.{◌≡◌, ℕ, ℤ, List, [], ◌∷◌, ◌++◌, codes, decimal, flat_map}
use Rattle.std.specs.Fmt.{signed_decimal}
use Rattle.std.specs.List.{zip}
use Rattle.nest_lang.specs.declared.budget.Ending.{Ending}
use Rattle.nest_lang.specs.declared.budget.Ending.TheVariants.{Ended, Trapped, Limited}
use Rattle.nest_lang.specs.declared.tree.Trap.TheVariants.{Overflow, ZeroDivisor, Outside}
use Rattle.nest_lang.specs.Stores.{Store}
use Rattle.report.specs.declared.runs.WordRun.{WordRun}
use Rattle.report.specs.LongestRuns.{LongestRuns}

-- a text and the byte that ends its line
abbrev pub line : List ℕ → List ℕ
line text = text ++ 10 ∷ []

-- how the run ended
abbrev pub ending_line : Ending → List ℕ
ending_line Ended = line (codes "ended")
ending_line (Trapped Overflow) = line (codes "trapped overflow")
ending_line (Trapped ZeroDivisor) = line (codes "trapped zero")
ending_line (Trapped (Outside address)) = line (codes "trapped outside " ++ signed_decimal address)
ending_line Limited = line (codes "limited")

-- a scalar's name and its value
abbrev pub scalar_line : List ℕ × ℤ → List ℕ
scalar_line scalar = line (codes "scalar " ++ scalar.0 ++ codes " " ++ signed_decimal scalar.1)

-- the first and the last address of a run of equal words, and the word
abbrev pub words_line : WordRun → List ℕ
words_line run = line (codes "words " ++ decimal run.first ++ codes " " ++ decimal run.last ++ codes " " ++ signed_decimal run.value)

-- the steps that were taken
abbrev pub steps_line : ℕ → List ℕ
steps_line steps = line (codes "steps " ++ decimal steps)

-- the lines of an outcome, where these are the runs of its words
abbrev pub outcome_lines : List (List ℕ) → List ℤ → List WordRun → Ending → ℕ → List ℕ
outcome_lines names scalars runs ending steps =
    ending_line ending ++ flat_map scalar_line (zip names scalars) ++ flat_map words_line runs ++ steps_line steps

-- the outcome of a run that left this store: how it ended, each scalar in order, each longest run of
-- equal words that aren't 0, ascending, and the steps
abbrev pub IsOutcome : List (List ℕ) → Store → Ending → ℕ → List ℕ → Type 0
IsOutcome names store ending steps bytes =
    (runs : List WordRun) × LongestRuns store.memory runs × (bytes ≡ outcome_lines names store.scalars runs ending steps)
