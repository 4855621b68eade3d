-- Longest runs: which words of a memory are not 0, told by runs of equal ones.
use Rattle.std.specs.Prelude.{◌≡◌, ◌≢◌, ℕ, ◌+◌, ◌<◌, ◌≤◌, ℤ, pos, List, Some, slice_get, All, AllPairs, Any}
use Rattle.report.specs.declared.runs.WordRun.{WordRun}

-- the address lies in the run
abbrev pub IsIn : WordRun → ℕ → Type 0
IsIn run address = (run.first ≤ address) × (address ≤ run.last)

-- a longest run of equal words that aren't 0: it has an address, each word in it is its value, which
-- isn't 0, and neither the word before it is, if there is one, nor the word after it
pub record IsLongest (memory : List ℤ) (run : WordRun) : Type 0 where
  pub not_empty : run.first ≤ run.last
  pub not_zero : run.value ≢ pos 0
  pub equal : (a : ℕ) → IsIn run a → slice_get memory a ≡ Some run.value
  pub before : (a : ℕ) → a + 1 ≡ run.first → slice_get memory a ≢ Some run.value
  pub after : slice_get memory (run.last + 1) ≢ Some run.value

-- the longest runs of equal words that aren't 0, ascending; each word that isn't 0 lies in one
pub record LongestRuns (memory : List ℤ) (runs : List WordRun) : Type 0 where
  pub ascending : AllPairs (λ one later. one.last < later.first) runs
  pub longest : All (IsLongest memory) runs
  pub complete : (a : ℕ) (word : ℤ) → slice_get memory a ≡ Some word → word ≢ pos 0 → Any (λ run. IsIn run a) runs
