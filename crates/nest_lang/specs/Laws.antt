-- What holds of plain runs.
use Rattle.std.specs.Prelude.{◌≡◌, ◌≢◌, ℕ, ◌≤◌, ◌+◌, List, ◌++◌, length, take}
use Rattle.nest_lang.specs.declared.tree.Nest.{Nest}
use Rattle.nest_lang.specs.Stores.{Store}
use Rattle.nest_lang.specs.Traces.{Entry, Limited}
use Rattle.nest_lang.specs.Runs.{nests_trace, plain_run}

-- the entries of a plain run within n steps
abbrev pub run_entries : List Nest → Store → ℕ → List Entry
run_entries nests s n = take n (nests_trace (n + 1) nests s).entries

-- a run within n steps begins every run within more steps
abbrev pub LongerRunBegins : Type 0
LongerRunBegins = (nests : List Nest) (s : Store) (n m : ℕ) → n ≤ m → (more : List Entry) × (run_entries nests s m ≡ run_entries nests s n ++ more)

-- a run that is not limited within n steps is the same within more steps
abbrev pub FinishedRunStays : Type 0
FinishedRunStays = (nests : List Nest) (s : Store) (n m : ℕ) → n ≤ m → (plain_run nests s n).ending ≢ Limited → plain_run nests s m ≡ plain_run nests s n

-- a run changes no number of words or scalars, so it changes no word outside of the memory
abbrev pub SizesStay : Type 0
SizesStay = (nests : List Nest) (s : Store) (n : ℕ) → (length (plain_run nests s n).store.memory ≡ length s.memory) × (length (plain_run nests s n).store.scalars ≡ length s.scalars)
