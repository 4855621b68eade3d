-- Data: what is predicted of a nest, in the order of the text, and what a table has of it.
use Rattle.std.specs.Prelude.{ℕ, ℤ, pos, nat_le, List, [], ◌∷◌, ◌++◌, length, map, Option, Some, None, if◌then◌else◌}
use Rattle.std.specs.List.{range_with_len}
use Rattle.affine.specs.Forms.{Affine}
use Rattle.nest_lang.specs.declared.observe.Seen.{Seen}
use Rattle.nest_lang.specs.declared.observe.Seen.TheVariants as seen
use Rattle.nest_lang.specs.declared.tree.BlockRef.{BlockRef}
use Rattle.nest_lang.specs.declared.tree.Loop.{Loop}
use Rattle.nest_lang.specs.declared.tree.Part.{Part}
use Rattle.nest_lang.specs.declared.tree.Part.TheVariants.{Head, Pre, Post}
use Rattle.nest_lang.specs.Accesses.{accesses_of}
use Rattle.nest_lang.specs.Traces.{Observation}
use Rattle.line_fit.specs.Samples.{Sample}
use Rattle.line_fit.specs.Lines.{Tube}
use Rattle.domain.specs.declared.prediction.What.{What}
use Rattle.domain.specs.declared.prediction.What.TheVariants.{Scalar, Address, Lower, Trip}
use Rattle.domain.specs.Tables.{Table, Block, Access, access_at}
use Rattle.domain.specs.Expected.{form_by}
use Rattle.profile.specs.Gathered.{samples_of}

-- the bounds of an inner loop are data of its head. Those of the outermost loop aren't: its turns are those of the chunk
abbrev pub bounds_of : Part → ℕ → List What
bounds_of Head level = if nat_le 2 level then Lower ∷ Trip ∷ [] else []
bounds_of Pre level = []
bounds_of Post level = []

-- the data of a block, in order: the scalars as it begins, from 0, the addresses of its accesses, from 1, and the lower
-- bound and the trip of a head
abbrev pub data_of : ℕ → List Loop → BlockRef → List What
data_of scalars loops block = map (λ n. Scalar n) (range_with_len 0 scalars) ++ map (λ n. Address n) (range_with_len 1 (length (accesses_of loops block))) ++ bounds_of block.part block.level

-- how a datum is shown in a run
abbrev pub shown_as : What → Seen
shown_as (Scalar number) = seen.Scalar number
shown_as (Address access) = seen.Address access
shown_as Lower = seen.Lower
shown_as Trip = seen.Trip

-- the samples of a datum among observations, over D counters
abbrev pub samples_at : ℕ → List Observation → BlockRef → What → List Sample
samples_at D observations block what = samples_of D block (shown_as what) observations

-- how wide the tube of a datum may be: an address may lie about its line, and every other datum lies on it
abbrev pub widest : What → ℕ
widest (Scalar number) = 0
widest (Address access) = 64
widest Lower = 0
widest Trip = 0

-- a form with a tube about it, where there is a form
abbrev pub tube_about : Option Affine → ℤ → ℤ → Option Tube
tube_about None low high = None
tube_about (Some line) low high = Some (record { line = line; low = low; high = high })

abbrev pub tube_of_access : Option Access → Option Tube
tube_of_access None = None
tube_of_access (Some a) = tube_about a.line a.low a.high

-- what a table has of a datum of a block: its form, with the tube about it; without a tube it is (0, 0)
abbrev pub tube_in : Table → Block → What → Option Tube
tube_in t b (Scalar number) = tube_about (form_by t b (Scalar number)) (pos 0) (pos 0)
tube_in t b (Address access) = tube_of_access (access_at b access)
tube_in t b Lower = tube_about (form_by t b Lower) (pos 0) (pos 0)
tube_in t b Trip = tube_about (form_by t b Trip) (pos 0) (pos 0)
