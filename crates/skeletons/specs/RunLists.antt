-- Runs as stretches of places: a stretch has the places that differ in their last number alone.
use Rattle.std.specs.Prelude.{ℕ, ℤ, ◌+◌, ◌-ℤ◌, ◌≤ℤ◌, ◌^◌, ◌<◌, ◌≤◌, List, length, unsigned_abs}
use Rattle.level_walk.specs.Merges.{tag}
use Rattle.level_walk.specs.Stretches.{point_at}
use Rattle.level_walk.specs.declared.runs.Run.{Run as Stretch}
use Rattle.domain.specs.Instances.{Instance}
use Rattle.skeletons.specs.Cells.{Extent}
use Rattle.skeletons.specs.Frames.{IsPlaceOf, instance_at}
use Rattle.skeletons.specs.Runs.{Run, step_of}
use Rattle.skeletons.specs.Scans.{IsNear}

-- how many places it has
abbrev pub count_of : Stretch → ℕ
count_of s = unsigned_abs (s.high -ℤ s.low) + 1

-- the instance at its first place
abbrev pub first_at : Extent → List (List ℤ) → ℕ → Stretch → Instance
first_at e inverse rank s = instance_at e inverse (tag rank (point_at s s.low))

-- the run of the instances at its places
abbrev pub run_of : Extent → List (List ℤ) → List ℤ → ℕ → Stretch → Run
run_of e inverse direction rank s = record { first = first_at e inverse rank s; step = step_of e direction (first_at e inverse rank s) (count_of s); count = count_of s }

-- its places are places of the block, and its numbers are small
pub record IsStretch (e : Extent) (rank : ℕ) (s : Stretch) : Type 0 where
  pub some : s.low ≤ℤ s.high
  pub first : IsPlaceOf e rank (point_at s s.low)
  pub all : (value : ℤ) → s.low ≤ℤ value → value ≤ℤ s.high → IsPlaceOf e rank (point_at s value)
  pub short : length s.front.items < 16
  pub small : unsigned_abs (s.high -ℤ s.low) ≤ 2 ^ 60
  pub near_low : IsNear s.low
  pub near_high : IsNear s.high
