-- The cells of the instances at the places of stretches.
use Rattle.std.specs.Int.{int_div_euclid}
use Rattle.std.specs.Prelude.{◌≡◌, ◌⊎◌, ℕ, ℤ, ◌-◌, ◌<◌, ◌≤ℤ◌, nat_lt, if◌then◌else◌, List, ◌↔◌}
use Rattle.affine.specs.Matrices.{product}
use Rattle.domain.specs.Instances.{Instance}
use Rattle.plain_lemmas.specs.Lists.{Has}
use Rattle.transform.specs.Schedules.{Schedule, line_at}
use Rattle.level_walk.specs.Stretches.{point_at}
use Rattle.level_walk.specs.declared.runs.Run.{Run as Stretch}
use Rattle.skeletons.specs.Cells.{Cell, Extent, LiesIn, cell_of}

-- the size of the tiles of the last row; a leading row is cut number by number
abbrev pub last_size : ℕ → Schedule → ℕ
last_size n s = if nat_lt (n - 1) s.seq then 1 else (line_at s (n - 1)).size

-- a number of a stretch that lies in a tile
pub record IsNumberIn (s : Stretch) (size number value : ℤ) : Type 0 where
  pub from : s.low ≤ℤ value
  pub to : value ≤ℤ s.high
  pub tile : int_div_euclid value size ≡ number

-- the cell of a place
abbrev pub cell_at : Extent → List (List ℤ) → List ℤ → Cell
cell_at e inverse z = cell_of e.schedule (product inverse z)

-- the cell of one of the places of a stretch
pub record IsCellOf (e : Extent) (inverse : List (List ℤ)) (s : Stretch) (cell : Cell) : Type 0 where
  pub value : ℤ
  pub from : s.low ≤ℤ value
  pub to : value ≤ℤ s.high
  pub is : cell ≡ cell_at e inverse (point_at s value)

-- the cell of one of several stretches
pub record IsCellAmong (e : Extent) (inverse : List (List ℤ)) (stretches : List Stretch) (cell : Cell) : Type 0 where
  pub stretch : Stretch
  pub there : Has stretches stretch
  pub is : IsCellOf e inverse stretch cell

-- the new list has the cells of the old one, and those with P
abbrev pub Gains : (Cell → Type 0) → List Cell → List Cell → Type 0
Gains P old new = (cell : Cell) → Has new cell ↔ (Has old cell ⊎ P cell)

-- a block with a rank below a number has an instance in the cell
pub record IsMetBelow (e : Extent) (to : ℕ) (cell : Cell) : Type 0 where
  pub at : Instance
  pub below : at.block < to
  pub lies : LiesIn e cell at
