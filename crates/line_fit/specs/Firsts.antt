-- Where counters come first among samples.
use Rattle.std.specs.Prelude.{◌≡◌, ◌<◌, ℕ, ℤ, List, MatchOption}
use Rattle.std.specs.Ordering.{int_cmp}
use Rattle.std.specs.Cmp.Lexicographic.{slice_cmp}
use Rattle.std.specs.BTreeMap.{BTreeMap, get}
use Rattle.line_fit.specs.Samples.{Sample, sample_at}

-- the first of the first n samples that has these counters stands at this place
pub record IsFirstWith (samples : List Sample) (n : ℕ) (at : List ℤ) (place : ℕ) : Type 0 where
  pub within : place < n
  pub same : (sample_at samples place).at ≡ at
  pub first : (earlier : ℕ) → earlier < place → (sample_at samples earlier).at ≡ at → ⊥

-- none of the first n samples has these counters
abbrev pub IsAbsent : List Sample → ℕ → List ℤ → Type 0
IsAbsent samples n at = (place : ℕ) → place < n → (sample_at samples place).at ≡ at → ⊥

-- an index of the first n samples: the place where each counters come first
abbrev pub IsIndex : List Sample → ℕ → BTreeMap (List ℤ) ℕ → Type 0
IsIndex samples n index = (at : List ℤ) → MatchOption (get (slice_cmp int_cmp) index at) (IsAbsent samples n at) (IsFirstWith samples n at)
