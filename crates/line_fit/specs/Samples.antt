-- Samples of one datum, in the order in which they were observed.
use Rattle.std.specs.Prelude.{◌≡◌, ◌<◌, ℕ, ℤ, pos, ◌-ℤ◌, List, [], length, slice_index_or, slice_set, ◌⊎◌}

-- a sample: the counters of an instance, the outermost first, and the value there
pub record Sample : Type 0 where
  pub at : List ℤ
  pub value : ℤ

-- the sample at a place of the list, from 0
abbrev pub sample_at : List Sample → ℕ → Sample
sample_at samples place = slice_index_or samples place (record { at = []; value = pos 0 })

-- the counters that are one less in counter k and equal elsewhere; counters are numbered from 0, the outermost
abbrev pub one_less : ℕ → List ℤ → List ℤ
one_less k at = slice_set at k (slice_index_or at k (pos 0) -ℤ pos 1)

-- a step of counter k: the sample at place a is earlier than that at place b, and its counters are one less in k
-- and equal elsewhere
pub record IsStep (k : ℕ) (samples : List Sample) (a b : ℕ) : Type 0 where
  pub earlier : a < b
  pub within : b < length samples
  pub less : (sample_at samples a).at ≡ one_less k (sample_at samples b).at

-- no two samples are a step of counter k
abbrev pub HasNoStep : ℕ → List Sample → Type 0
HasNoStep k samples = (a b : ℕ) → IsStep k samples a b → ⊥

-- the first step of counter k: b is the first sample with an earlier one that is one less in k, and a is the first
-- such earlier one
pub record IsFirstStep (k : ℕ) (samples : List Sample) (a b : ℕ) : Type 0 where
  pub step : IsStep k samples a b
  pub first : (c d : ℕ) → d < b → IsStep k samples c d → ⊥
  pub only : (c : ℕ) → c < a → IsStep k samples c b → ⊥

-- the rise of the value over the first step of counter k
pub record IsRise (k : ℕ) (samples : List Sample) (rise : ℤ) : Type 0 where
  pub from : ℕ
  pub to : ℕ
  pub step : IsFirstStep k samples from to
  pub difference : rise ≡ (sample_at samples to).value -ℤ (sample_at samples from).value

-- the coefficient of counter k: the rise over its first step, and 0 where there is none
abbrev pub IsCoefficient : ℕ → List Sample → ℤ → Type 0
IsCoefficient k samples coefficient = (HasNoStep k samples × (coefficient ≡ pos 0)) ⊎ IsRise k samples coefficient
