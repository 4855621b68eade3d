-- The line through samples, the tube about it, and why there is no fit.
use Rattle.std.specs.Prelude.{◌≡◌, ◌≢◌, ◌<◌, ◌≤◌, ◌^◌, ◌⊎◌, ℕ, ℤ, pos, ◌-ℤ◌, ◌≤ℤ◌, ◌<ℤ◌, List, length, slice_index_or, unsigned_abs, FitsSigned}
use Rattle.std.specs.Int.{w64}
use Rattle.affine.specs.Forms.{Affine, AllWithinSize, value_at}
use Rattle.line_fit.specs.Samples.{Sample, sample_at, IsCoefficient}

-- the largest size of a coefficient that can be kept
abbrev pub largest : ℕ
largest = 2 ^ 40

-- the coefficients of samples over n counters: for each counter the rise over its first step
pub record AreCoefficients (n : ℕ) (samples : List Sample) (numbers : List ℤ) : Type 0 where
  pub counters : length numbers ≡ n
  pub each : (k : ℕ) → k < n → IsCoefficient k samples (slice_index_or numbers k (pos 0))

-- the line of samples over n counters: it has their coefficients, and its constant makes it meet the first sample
pub record IsLine (n : ℕ) (samples : List Sample) (line : Affine) : Type 0 where
  pub coefficients : AreCoefficients n samples line.coef
  pub meets : value_at line (sample_at samples 0).at ≡ (sample_at samples 0).value

-- a line that can be kept: each coefficient is at most 2^40 in size, and the constant is an i64
pub record IsSmall (line : Affine) : Type 0 where
  pub coefficients : AllWithinSize largest line.coef
  pub constant : FitsSigned w64 line.cst

-- counter k has a coefficient that can be kept
pub record HasSmallCoefficient (samples : List Sample) (k : ℕ) : Type 0 where
  pub coefficient : ℤ
  pub is : IsCoefficient k samples coefficient
  pub small : unsigned_abs coefficient ≤ largest

-- the first coefficient, in the order of the counters, that is too large to be kept
pub record IsLargeCoefficient (n : ℕ) (samples : List Sample) (number : ℤ) : Type 0 where
  pub counter : ℕ
  pub within : counter < n
  pub is : IsCoefficient counter samples number
  pub large : largest < unsigned_abs number
  pub first : (k : ℕ) → k < counter → HasSmallCoefficient samples k

-- the constant, where every coefficient can be kept and it is no i64
pub record IsLargeConstant (n : ℕ) (samples : List Sample) (number : ℤ) : Type 0 where
  pub line : Affine
  pub through : IsLine n samples line
  pub coefficients : AllWithinSize largest line.coef
  pub is : number ≡ line.cst
  pub large : FitsSigned w64 number → ⊥

-- a number of the line that is too large to be kept: the first such coefficient, or else the constant
abbrev pub IsLarge : ℕ → List Sample → ℤ → Type 0
IsLarge n samples number = IsLargeCoefficient n samples number ⊎ IsLargeConstant n samples number

-- the residual of a sample: its value less the line
abbrev pub residual : Affine → Sample → ℤ
residual line sample = sample.value -ℤ value_at line sample.at

-- the residual of some sample is this number
abbrev pub IsReached : Affine → List Sample → ℤ → Type 0
IsReached line samples number = (place : ℕ) × (place < length samples) × (residual line (sample_at samples place) ≡ number)

-- the tube of a line: the least and the greatest of the residuals
pub record IsTube (line : Affine) (samples : List Sample) (low high : ℤ) : Type 0 where
  pub least : IsReached line samples low
  pub greatest : IsReached line samples high
  pub about : (place : ℕ) → place < length samples → (low ≤ℤ residual line (sample_at samples place)) × (residual line (sample_at samples place) ≤ℤ high)

-- the ends of a tube that is at most so wide
pub record IsWithin (low high : ℤ) (widest : ℕ) (first last : ℤ) : Type 0 where
  pub narrow : (high -ℤ low) ≤ℤ pos widest
  pub first_is : first ≡ low
  pub last_is : last ≡ high

-- a line with its tube
pub record Tube : Type 0 where
  pub line : Affine
  pub low : ℤ
  pub high : ℤ

-- the fit of samples over n counters: their line, which can be kept, with its tube, which is at most so wide
pub record IsFit (n widest : ℕ) (samples : List Sample) (tube : Tube) : Type 0 where
  pub line : IsLine n samples tube.line
  pub small : IsSmall tube.line
  pub spread : IsTube tube.line samples tube.low tube.high
  pub narrow : (tube.high -ℤ tube.low) ≤ℤ pos widest

-- a sample that the line misses: its counters, the line there, and what was seen
pub record Miss : Type 0 where
  pub at : List ℤ
  pub line : ℤ
  pub seen : ℤ

-- a line meets the sample at a place
abbrev pub Meets : Affine → List Sample → ℕ → Type 0
Meets line samples place = value_at line (sample_at samples place).at ≡ (sample_at samples place).value

-- the first sample that a line misses
pub record IsFirstMiss (line : Affine) (samples : List Sample) (miss : Miss) : Type 0 where
  pub place : ℕ
  pub within : place < length samples
  pub at : miss.at ≡ (sample_at samples place).at
  pub seen : miss.seen ≡ (sample_at samples place).value
  pub expected : miss.line ≡ value_at line miss.at
  pub differs : miss.seen ≢ miss.line
  pub first : (earlier : ℕ) → earlier < place → Meets line samples earlier

-- the tube of the line, which can be kept, is wider than so much, and this is the first sample that the line misses
pub record IsTooWide (n widest : ℕ) (samples : List Sample) (miss : Miss) : Type 0 where
  pub line : Affine
  pub through : IsLine n samples line
  pub small : IsSmall line
  pub low : ℤ
  pub high : ℤ
  pub spread : IsTube line samples low high
  pub wide : pos widest <ℤ (high -ℤ low)
  pub missed : IsFirstMiss line samples miss
