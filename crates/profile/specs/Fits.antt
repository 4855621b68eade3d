-- Fits: the table of a nest in which each datum has the fit of its samples, and the first datum that has none.
use Rattle.std.specs.Prelude.{◌≡◌, ◌<◌, ℕ, pos, List, [], length, slice_get, Option, Some, None, ⊤}
use Rattle.std.specs.List.{All}
use Rattle.nest_lang.specs.declared.tree.BlockRef.{BlockRef}
use Rattle.nest_lang.specs.declared.tree.Loop.{Loop}
use Rattle.nest_lang.specs.Blocks.{present_blocks}
use Rattle.nest_lang.specs.Traces.{Observation}
use Rattle.line_fit.specs.Samples.{Sample}
use Rattle.line_fit.specs.Lines.{Tube, IsFit, IsLarge, IsTooWide}
use Rattle.domain.specs.declared.prediction.What.{What}
use Rattle.domain.specs.Tables.{Table, Access, access_at, block_at, level_at}
use Rattle.domain.specs.Shapes.{IsTableOf}
use Rattle.profile.specs.declared.unfit.Unfit.{Unfit}
use Rattle.profile.specs.declared.unfit.UnfitWhy.{UnfitWhy}
use Rattle.profile.specs.declared.unfit.UnfitWhy.TheVariants as why
use Rattle.profile.specs.declared.unfit.FitEnd.{FitEnd}
use Rattle.profile.specs.declared.unfit.FitEnd.TheVariants as end
use Rattle.profile.specs.Data.{data_of, samples_at, tube_in, widest}

-- the fit of samples: their line with its tube, or none where there is no sample
abbrev pub HasFit : ℕ → ℕ → List Sample → Option Tube → Type 0
HasFit D most samples None = samples ≡ []
HasFit D most samples (Some tube) = (0 < length samples) × IsFit D most samples tube

-- the fit of a datum of a block
abbrev pub HasFitAt : ℕ → List Observation → BlockRef → What → Option Tube → Type 0
HasFitAt D observations block what fit = HasFit D (widest what) (samples_at D observations block what) fit

-- an access without a form has the tube (0, 0)
abbrev pub HasNarrowTube : Access → Type 0
HasNarrowTube a = a.line ≡ None → (a.low ≡ pos 0) × (a.high ≡ pos 0)

-- the fit of a nest of D loops, in a file with so many scalars: the nest's table, in which each datum has the fit of its
-- samples among the observations, and the outermost loop has no forms
pub record IsFitOf (D scalars : ℕ) (loops : List Loop) (observations : List Observation) (t : Table) : Type 0 where
  pub shape : IsTableOf scalars loops t
  pub outermost : ((level_at t 0).lower ≡ None) × ((level_at t 0).trip ≡ None)
  pub fits : (rank : ℕ) (block : BlockRef) → slice_get (present_blocks loops) rank ≡ Some block → All (λ what. HasFitAt D observations block what (tube_in t (block_at t rank) what)) (data_of scalars loops block)
  pub unseen : (rank number : ℕ) (a : Access) → access_at (block_at t rank) number ≡ Some a → HasNarrowTube a

-- why samples of a block of that rank have no fit: a number of the line is too large, or the first sample that it misses
abbrev pub IsUnfitBy : (D : ℕ) → ℕ → ℕ → List Sample → UnfitWhy D → Type 0
IsUnfitBy D rank most samples (why.Large number) = (0 < length samples) × IsLarge D samples number
IsUnfitBy D rank most samples (why.Line at line seen) = (0 < length samples) × (at.block ≡ rank) × IsTooWide D most samples (record { at = at.at; line = line; seen = seen })

-- some data of a block of that rank have fits up to a place, and the one there has none, for that reason
pub record IsUnfitIn (D : ℕ) (observations : List Observation) (rank : ℕ) (block : BlockRef) (list : List What) (unfit : Unfit D) : Type 0 where
  pub of : unfit.block ≡ rank
  pub place : ℕ
  pub datum : slice_get list place ≡ Some unfit.what
  pub why : IsUnfitBy D rank (widest unfit.what) (samples_at D observations block unfit.what) unfit.why
  pub before : (k : ℕ) (what : What) → k < place → slice_get list k ≡ Some what → (fit : Option Tube) × HasFitAt D observations block what fit

-- each of some data of a block has a fit
abbrev pub AreFitIn : ℕ → List Observation → BlockRef → List What → Type 0
AreFitIn D observations block list = (k : ℕ) (what : What) → slice_get list k ≡ Some what → (fit : Option Tube) × HasFitAt D observations block what fit

-- the first datum of a nest that has no fit: blocks in the order of the text, and in each its data in order
pub record IsUnfitAt (D scalars : ℕ) (loops : List Loop) (observations : List Observation) (unfit : Unfit D) : Type 0 where
  pub block : BlockRef
  pub present : slice_get (present_blocks loops) unfit.block ≡ Some block
  pub first : IsUnfitIn D observations unfit.block block (data_of scalars loops block) unfit
  pub before : (rank : ℕ) (b : BlockRef) → rank < unfit.block → slice_get (present_blocks loops) rank ≡ Some b → AreFitIn D observations b (data_of scalars loops b)

-- why there is no fit; want of memory may come at any time
abbrev pub IsFitEnd : (D : ℕ) → ℕ → List Loop → List Observation → FitEnd D → Type 0
IsFitEnd D scalars loops observations (end.Unfit unfit) = IsUnfitAt D scalars loops observations unfit
IsFitEnd D scalars loops observations end.NoMemory = ⊤
