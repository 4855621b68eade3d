-- The places of a block's instances, as they are listed one instance after another.
use Rattle.std.specs.Prelude.{◌≡◌, ◌⊎◌, ℕ, ℤ, List, map, ◌↔◌}
use Rattle.arrayvec.specs.ArrayVec.{ArrayVec}
use Rattle.plain_lemmas.specs.Lists.{Has}
use Rattle.domain.specs.Instances.{Instance, padded}
use Rattle.domain.specs.Tables.{Table}
use Rattle.transform.specs.Schedules.{Schedule, place}

-- the numbers of points
abbrev pub numbers : List (ArrayVec ℤ) → List (List ℤ)
numbers points = map (λ point. point.items) points

-- the instance is one of the block, and has this place
pub record HasPlace (t : Table) (s : Schedule) (rank : ℕ) (x : Instance) (z : List ℤ) : Type 0 where
  pub block : x.block ≡ rank
  pub there : place s (padded t x) ≡ z

-- the new points have the places of the old ones, and that of the instance where it is one of the block
abbrev pub Notes : Table → Schedule → ℕ → Instance → List (ArrayVec ℤ) → List (ArrayVec ℤ) → Type 0
Notes t s rank x old new = (z : List ℤ) → Has (numbers new) z ↔ (Has (numbers old) z ⊎ HasPlace t s rank x z)
