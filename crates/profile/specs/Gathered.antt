-- The samples of a datum, gathered from observations.
use Rattle.std.specs.Prelude.{◌-◌, ℕ, ℤ, pos, List, [], ◌∷◌, length, map, take, slice_index_or, nat_eq, Bool, true, false, ◌&&◌, if◌then◌else◌}
use Rattle.std.specs.Ordering.{int_eq}
use Rattle.std.specs.List.{flat_map, range_with_len}
use Rattle.nest_lang.specs.declared.tree.BlockRef.{BlockRef}
use Rattle.nest_lang.specs.declared.observe.Seen.{Seen}
use Rattle.nest_lang.specs.declared.observe.Seen.TheVariants.{Start, Scalar, Address, Lower, Trip, Condition}
use Rattle.nest_lang.specs.Blocks.{same_block}
use Rattle.nest_lang.specs.Traces.{Observation}
use Rattle.line_fit.specs.Samples.{Sample}

-- D numbers: the counters, and zeros after them
abbrev pub padded : ℕ → List ℤ → List ℤ
padded D counters = map (λ k. slice_index_or counters k (pos 0)) (range_with_len 0 D)

-- two kinds of observation are the same
abbrev pub same_seen : Seen → Seen → Bool
same_seen Start Start = true
same_seen (Scalar m) (Scalar n) = nat_eq m n
same_seen (Address m) (Address n) = nat_eq m n
same_seen Lower Lower = true
same_seen Trip Trip = true
same_seen Condition Condition = true
same_seen a b = false

-- an observation of this kind, of an instance of this block
abbrev pub is_of : BlockRef → Seen → Observation → Bool
is_of block what o = same_block o.at.block block && same_seen o.what what

-- the sample that an observation is
abbrev pub sample_of : ℕ → Observation → Sample
sample_of D o = record { at = padded D o.at.counters; value = o.value }

-- the trip of an inner `while` that ended: its last counter, at its first head
abbrev pub trip_of : ℕ → List ℤ → Sample
trip_of D counters = record { at = padded D (take (length counters - 1) counters); value = slice_index_or counters (length counters - 1) (pos 0) }

-- the false condition of an instance of this block
abbrev pub is_end_of : BlockRef → Observation → Bool
is_end_of block o = is_of block Condition o && int_eq o.value (pos 0)

-- an inner `while` ends with a false condition, which tells its trip
abbrev pub ended_by : ℕ → BlockRef → Seen → Observation → List Sample
ended_by D block Trip o = if is_end_of block o then trip_of D o.at.counters ∷ [] else []
ended_by D block what o = []

-- the sample of a datum of a block that an observation gives, if it gives one. The data are scalars, addresses, lower
-- bounds and trips
abbrev pub given_by : ℕ → BlockRef → Seen → Observation → List Sample
given_by D block what o = if is_of block what o then sample_of D o ∷ [] else ended_by D block what o

-- the samples of a datum among observations, in order
abbrev pub samples_of : ℕ → BlockRef → Seen → List Observation → List Sample
samples_of D block what observations = flat_map (given_by D block what) observations
