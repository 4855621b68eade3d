-- Parts of a fit: what the calls inside it answer.
use Rattle.std.specs.Prelude.{◌≡◌, ◌<◌, ◌≤◌, ◌+◌, ◌^◌, ℕ, pos, List, [], length, map, slice_get, slice_index_or, option_and_then, Option, Some, None, ⊤}
use Rattle.affine.specs.Forms.{Affine}
use Rattle.nest_lang.specs.declared.tree.Access.{Access as NestAccess}
use Rattle.nest_lang.specs.declared.tree.BlockRef.{BlockRef}
use Rattle.nest_lang.specs.declared.tree.Loop.{Loop}
use Rattle.nest_lang.specs.declared.tree.Part.TheVariants.{Head}
use Rattle.nest_lang.specs.Accesses.{accesses_of}
use Rattle.nest_lang.specs.Blocks.{block_ref, present_blocks, rank_of}
use Rattle.nest_lang.specs.Traces.{Observation}
use Rattle.line_fit.specs.Lines.{Tube}
use Rattle.domain.specs.declared.prediction.What.{What}
use Rattle.domain.specs.declared.prediction.What.TheVariants.{Scalar, Address, Lower, Trip}
use Rattle.domain.specs.declared.table.LoopKind.{LoopKind}
use Rattle.domain.specs.Tables.{Block, Access, Level, no_block, Reaches, stride_size, IsTube}
use Rattle.domain.specs.Shapes.{is_store, kind_of}
use Rattle.profile.specs.declared.unfit.FitEnd.{FitEnd}
use Rattle.profile.specs.declared.unfit.FitEnd.TheVariants as end
use Rattle.profile.specs.Data.{bounds_of, tube_about}
use Rattle.profile.specs.Fits.{HasFitAt, HasNarrowTube, IsUnfitIn}

-- some data of a block have no fit, or memory is wanting
abbrev pub IsEndIn : (D : ℕ) → List Observation → ℕ → BlockRef → List What → FitEnd D → Type 0
IsEndIn D observations rank block list (end.Unfit unfit) = IsUnfitIn D observations rank block list unfit
IsEndIn D observations rank block list end.NoMemory = ⊤

-- the ends of a tube about a form, where there is one
abbrev pub HasTube : Option Tube → Type 0
HasTube None = ⊤
HasTube (Some tube) = IsTube tube.low tube.high

-- the forms of the scalars of a block
pub record AreScalarFits (D : ℕ) (observations : List Observation) (block : BlockRef) (scalars : ℕ) (forms : List (Option Affine)) : Type 0 where
  pub count : length forms ≡ scalars
  pub each : (n : ℕ) → n < scalars → HasFitAt D observations block (Scalar n) (tube_about (slice_index_or forms n None) (pos 0) (pos 0))

-- the accesses of a block, each with the fit of its address
pub record AreAccessFits (D : ℕ) (observations : List Observation) (block : BlockRef) (accesses : List NestAccess) (forms : List Access) : Type 0 where
  pub kinds : map (λ (a : Access). a.stores) forms ≡ map (λ (a : NestAccess). is_store a.kind) accesses
  pub each : (n : ℕ) (a : Access) → slice_get forms n ≡ Some a → HasFitAt D observations block (Address (n + 1)) (tube_about a.line a.low a.high) × HasNarrowTube a

-- the forms of the bounds of a loop
pub record LoopBounds : Type 0 where
  pub lower : Option Affine
  pub trip : Option Affine

-- the bounds of the loop of which a block is the head, where they are data of it
pub record AreBoundFits (D : ℕ) (observations : List Observation) (block : BlockRef) (bounds : LoopBounds) : Type 0 where
  pub inner : block.part ≡ Head → 2 ≤ block.level → HasFitAt D observations block Lower (tube_about bounds.lower (pos 0) (pos 0)) × HasFitAt D observations block Trip (tube_about bounds.trip (pos 0) (pos 0))
  pub other : bounds_of block.part block.level ≡ [] → (bounds.lower ≡ None) × (bounds.trip ≡ None)

-- a block of a nest with the fits of its data
pub record IsBlockFit (D scalars : ℕ) (loops : List Loop) (observations : List Observation) (block : BlockRef) (b : Block) (bounds : LoopBounds) : Type 0 where
  pub part : b.part ≡ block.part
  pub level : b.level ≡ block.level
  pub forms : AreScalarFits D observations block scalars b.scalars
  pub accesses : AreAccessFits D observations block (accesses_of loops block) b.accesses
  pub bounds_fit : AreBoundFits D observations block bounds

abbrev pub no_bounds : LoopBounds
no_bounds = record { lower = None; trip = None }

-- the first so many present blocks of a nest with the fits of their data
pub record AreBlockFits (D scalars : ℕ) (loops : List Loop) (observations : List Observation) (n : ℕ) (blocks : List Block) (bounds : List LoopBounds) : Type 0 where
  pub count : length blocks ≡ n
  pub count_bounds : length bounds ≡ n
  pub each : (rank : ℕ) (block : BlockRef) → rank < n → slice_get (present_blocks loops) rank ≡ Some block → IsBlockFit D scalars loops observations block (slice_index_or blocks rank no_block) (slice_index_or bounds rank no_bounds)

-- the bounds that the head of the loop at a level has, where it is a block
abbrev pub own_bounds : List Loop → List LoopBounds → ℕ → Option LoopBounds
own_bounds loops bounds level = option_and_then (λ (rank : ℕ). slice_get bounds rank) (rank_of loops (block_ref Head level))

abbrev pub level_with : LoopKind → Option LoopBounds → Level
level_with kind None = record { kind = kind; lower = None; trip = None }
level_with kind (Some b) = record { kind = kind; lower = b.lower; trip = b.trip }

-- the first so many loops of a nest with the bounds of their heads
pub record AreLevels (loops : List Loop) (bounds : List LoopBounds) (n : ℕ) (levels : List Level) : Type 0 where
  pub count : length levels ≡ n
  pub each : (k : ℕ) (l : Loop) → k < n → slice_get loops k ≡ Some l → slice_get levels k ≡ Some (level_with (kind_of l.head) (own_bounds loops bounds (k + 1)))

-- loops that a prediction may have: their strides are i64s, and the values of their names stay far below 2^127
pub record StayWithinReach (levels : List Level) : Type 0 where
  pub strides : (k : ℕ) (x : Level) → slice_get levels k ≡ Some x → stride_size x.kind ≤ 2 ^ 63
  pub reach : (k : ℕ) (x : Level) → slice_get levels k ≡ Some x → Reaches (stride_size x.kind) x.trip
