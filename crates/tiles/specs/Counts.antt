-- Counts: how many instances runs have.
use Rattle.std.specs.Prelude.{ℕ, List}
use Rattle.std.specs.List.{sum_by}
use Rattle.skeletons.specs.Runs.{Run}

-- how many instances some runs have
abbrev pub count_of : List Run → ℕ
count_of runs = sum_by (λ (r : Run). r.count) runs

-- and the runs of some cells
abbrev pub counted : List (List Run) → ℕ
counted runs = sum_by count_of runs
