-- Expected values: of a datum at an instance.
use Rattle.std.specs.Prelude.{ℕ, ℤ, Option, option_map, option_and_then}
use Rattle.affine.specs.Forms.{Affine, value_at}
use Rattle.domain.specs.declared.prediction.What.{What}
use Rattle.domain.specs.declared.prediction.What.TheVariants.{Scalar, Address, Lower, Trip}
use Rattle.domain.specs.Tables.{Table, Level, Block, block_at, access_at, line_of, tube_by, scalar_at, head_level}
use Rattle.domain.specs.Instances.{Instance}

-- the form of a datum of a block; only heads have a lower bound and a trip
abbrev pub form_by : Table → Block → What → Option Affine
form_by t b (Scalar number) = scalar_at b number
form_by t b (Address access) = line_of (access_at b access)
form_by t b Lower = option_and_then (λ (l : Level). l.lower) (head_level t b)
form_by t b Trip = option_and_then (λ (l : Level). l.trip) (head_level t b)

-- the form of a datum of the block of that rank
unfoldable pub form_of : Table → ℕ → What → Option Affine
form_of t rank what = form_by t (block_at t rank) what

-- the tube of an access that has a form
unfoldable pub tube_of : Table → ℕ → ℕ → Option (ℤ × ℤ)
tube_of t rank number = tube_by (access_at (block_at t rank) number) (line_of (access_at (block_at t rank) number))

-- the expected value: that of the datum's form at the counters; for an address the line
unfoldable pub expected_of : Table → Instance → What → Option ℤ
expected_of t x what = option_map (λ form. value_at form x.at) (form_of t x.block what)
