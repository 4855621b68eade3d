-- Laws of fits, each for all samples.
use Rattle.std.specs.Prelude.{◌≡◌, ◌<◌, ◌⊎◌, ℕ, ℤ, pos, ◌+ℤ◌, ◌≤ℤ◌, List, length}
use Rattle.affine.specs.Forms.{Affine, value_at}
use Rattle.line_fit.specs.Samples.{Sample, sample_at, one_less, IsCoefficient}
use Rattle.line_fit.specs.Lines.{Tube, Miss, Meets, IsLine, IsFit, IsLarge, IsTooWide}

-- a counter has one coefficient
abbrev pub CoefficientIsOne : Type 0
CoefficientIsOne = (k : ℕ) (samples : List Sample) (c d : ℤ) → IsCoefficient k samples c → IsCoefficient k samples d → c ≡ d

-- samples have one line
abbrev pub LineIsOne : Type 0
LineIsOne = (n : ℕ) (samples : List Sample) (line other : Affine) → IsLine n samples line → IsLine n samples other → line ≡ other

-- samples have one fit: one line, and one tube about it
abbrev pub FitIsOne : Type 0
FitIsOne = (n widest : ℕ) (samples : List Sample) (tube other : Tube) → 0 < length samples → IsFit n widest samples tube → IsFit n widest samples other → tube ≡ other

-- every sample lies in its tube about the line
abbrev pub SamplesLieInTube : Type 0
SamplesLieInTube = (n widest : ℕ) (samples : List Sample) (tube : Tube) → IsFit n widest samples tube → (place : ℕ) → place < length samples
    → ((value_at tube.line (sample_at samples place).at +ℤ tube.low) ≤ℤ (sample_at samples place).value) × ((sample_at samples place).value ≤ℤ (value_at tube.line (sample_at samples place).at +ℤ tube.high))

-- two samples differ by one in counter k alone
pub record HasPair (k : ℕ) (samples : List Sample) : Type 0 where
  pub lower : ℕ
  pub upper : ℕ
  pub lower_within : lower < length samples
  pub upper_within : upper < length samples
  pub apart : (sample_at samples lower).at ≡ one_less k (sample_at samples upper).at

-- where each counter has such a pair and the tube is (0, 0), the line is the only affine function through the samples
abbrev pub LineIsOnlyAffine : Type 0
LineIsOnlyAffine = (n widest : ℕ) (samples : List Sample) (tube : Tube) → 0 < length samples → ((place : ℕ) → place < length samples → length (sample_at samples place).at ≡ n)
    → IsFit n widest samples tube → tube.low ≡ pos 0 → tube.high ≡ pos 0 → ((k : ℕ) → k < n → HasPair k samples)
    → ((place : ℕ) → place < length samples → Meets tube.line samples place)
    × ((other : Affine) → length other.coef ≡ n → ((place : ℕ) → place < length samples → Meets other samples place) → other ≡ tube.line)

-- where there is a fit no number of the line is too large, and the tube is not too wide
abbrev pub FitOrUnfit : Type 0
FitOrUnfit = (n widest : ℕ) (samples : List Sample) (tube : Tube) → 0 < length samples → IsFit n widest samples tube
    → ((number : ℤ) → IsLarge n samples number → ⊥) × ((miss : Miss) → IsTooWide n widest samples miss → ⊥)

-- samples have a fit, or a number of the line that is too large, or a tube that is too wide
abbrev pub FitOrReason : Type 0
FitOrReason = (n widest : ℕ) (samples : List Sample) → 0 < length samples
    → ((tube : Tube) × IsFit n widest samples tube) ⊎ (((number : ℤ) × IsLarge n samples number) ⊎ ((miss : Miss) × IsTooWide n widest samples miss))

-- and they have at most one of these: one number that is too large, not both, and one sample that the line misses first
abbrev pub ReasonIsOne : Type 0
ReasonIsOne = (n widest : ℕ) (samples : List Sample)
    → ((a b : ℤ) → IsLarge n samples a → IsLarge n samples b → a ≡ b)
    × ((number : ℤ) (miss : Miss) → IsLarge n samples number → IsTooWide n widest samples miss → ⊥)
    × ((a b : Miss) → IsTooWide n widest samples a → IsTooWide n widest samples b → a ≡ b)
