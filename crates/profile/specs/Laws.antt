-- Laws of first profiles, and of the fit of a nest, each for all observations.
use Rattle.std.specs.Prelude.{◌≡◌, ◌<◌, ◌⊎◌, ℕ, pos, ◌+ℤ◌, ◌≤ℤ◌, List, length, slice_get, Some}
use Rattle.std.specs.List.{Contains}
use Rattle.affine.specs.Forms.{Affine, value_at}
use Rattle.nest_lang.specs.declared.tree.BlockRef.{BlockRef}
use Rattle.nest_lang.specs.declared.tree.Loop.{Loop}
use Rattle.nest_lang.specs.Blocks.{present_blocks}
use Rattle.nest_lang.specs.Stores.{Store}
use Rattle.nest_lang.specs.Traces.{Observation}
use Rattle.line_fit.specs.Laws.{HasPair}
use Rattle.line_fit.specs.Samples.{sample_at}
use Rattle.line_fit.specs.Lines.{Tube, Meets}
use Rattle.domain.specs.declared.prediction.What.{What}
use Rattle.domain.specs.Tables.{Table, block_at}
use Rattle.profile.specs.declared.first_turns.FirstProfile.{FirstProfile}
use Rattle.profile.specs.declared.unfit.Unfit.{Unfit}
use Rattle.profile.specs.Data.{data_of, samples_at, tube_in}
use Rattle.profile.specs.FirstProfiles.{IsFirstProfile}
use Rattle.profile.specs.Fits.{IsFitOf, IsUnfitAt}

-- observations have a fit, or a first datum that has none, and not both
abbrev pub FitOrUnfit : Type 0
FitOrUnfit = (D scalars : ℕ) (loops : List Loop) (observations : List Observation) (t : Table) (unfit : Unfit D) → IsFitOf D scalars loops observations t → IsUnfitAt D scalars loops observations unfit → ⊥

-- a datum of a present block that has a form
pub record HasForm (scalars : ℕ) (loops : List Loop) (t : Table) (block : BlockRef) (what : What) (tube : Tube) : Type 0 where
  pub rank : ℕ
  pub present : slice_get (present_blocks loops) rank ≡ Some block
  pub datum : Contains (data_of scalars loops block) what
  pub form : tube_in t (block_at t rank) what ≡ Some tube

-- every sample of a datum with a form lies in its tube about the line
abbrev pub SamplesLieInTubes : Type 0
SamplesLieInTubes =
    (D scalars : ℕ) (loops : List Loop) (observations : List Observation) (t : Table) (block : BlockRef) (what : What) (tube : Tube) → IsFitOf D scalars loops observations t → HasForm scalars loops t block what tube
    → (place : ℕ) → place < length (samples_at D observations block what)
    → ((value_at tube.line (sample_at (samples_at D observations block what) place).at +ℤ tube.low) ≤ℤ (sample_at (samples_at D observations block what) place).value)
    × ((sample_at (samples_at D observations block what) place).value ≤ℤ (value_at tube.line (sample_at (samples_at D observations block what) place).at +ℤ tube.high))

-- where each counter has a pair of samples that differ by one in it alone and the tube is (0, 0), the form is the only affine
-- function through the samples
abbrev pub FormIsOnlyAffine : Type 0
FormIsOnlyAffine =
    (D scalars : ℕ) (loops : List Loop) (observations : List Observation) (t : Table) (block : BlockRef) (what : What) (tube : Tube) → IsFitOf D scalars loops observations t → HasForm scalars loops t block what tube
    → tube.low ≡ pos 0 → tube.high ≡ pos 0 → ((k : ℕ) → k < D → HasPair k (samples_at D observations block what))
    → ((place : ℕ) → place < length (samples_at D observations block what) → Meets tube.line (samples_at D observations block what) place)
    × ((other : Affine) → length other.coef ≡ D → ((place : ℕ) → place < length (samples_at D observations block what) → Meets other (samples_at D observations block what) place) → other ≡ tube.line)

-- observations have at most one fit
abbrev pub OneFit : Type 0
OneFit = (D scalars : ℕ) (loops : List Loop) (observations : List Observation) (t u : Table) → IsFitOf D scalars loops observations t → IsFitOf D scalars loops observations u → t ≡ u

-- observations have a fit, or a first datum that has none: of every nest, whatever was seen of it
abbrev pub FitOrFirstUnfit : Type 0
FitOrFirstUnfit = (D scalars : ℕ) (loops : List Loop) (observations : List Observation) → ((t : Table) × IsFitOf D scalars loops observations t) ⊎ ((unfit : Unfit D) × IsUnfitAt D scalars loops observations unfit)

-- observations have at most one first datum that has no fit
abbrev pub OneFirstUnfit : Type 0
OneFirstUnfit = (D scalars : ℕ) (loops : List Loop) (observations : List Observation) (u v : Unfit D) → IsUnfitAt D scalars loops observations u → IsUnfitAt D scalars loops observations v → u ≡ v

-- a nest, a store and steps have exactly one first profile of so many turns
abbrev pub OneFirstProfile : Type 0
OneFirstProfile = (loops : List Loop) (c : ℕ) (s : Store) (left : ℕ) →
    (profile : FirstProfile) × IsFirstProfile loops c s left profile
    × ((other : FirstProfile) → IsFirstProfile loops c s left other → other ≡ profile)
