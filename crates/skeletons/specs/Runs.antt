-- Runs of a cell: instances of a block whose padded points follow one another in the last direction of the schedule.
use Rattle.std.specs.Prelude.{◌≡◌, ℕ, ℤ, pos, negsuc, ◌-◌, ◌<◌, ◌≤◌, nat_lt, if◌then◌else◌, List, ◌∷◌, ◌↔◌, length, replicate}
use Rattle.std.specs.Ordering.{int_cmp}
use Rattle.std.specs.declared.cmp.Ordering.TheVariants.{Less}
use Rattle.std.specs.Cmp.Lexicographic.{slice_cmp}
use Rattle.affine.specs.Matrices.{product, unit_row}
use Rattle.affine.specs.Sums.{weighted}
use Rattle.orders.specs.Orders.{Ordered}
use Rattle.plain_lemmas.specs.Lists.{Has}
use Rattle.domain.specs.Tables.{counters, cut, depth}
use Rattle.domain.specs.Instances.{Instance, block_of, padded}
use Rattle.transform.specs.Schedules.{Schedule, matrix, place}
use Rattle.skeletons.specs.Cells.{Cell, Extent, LiesIn}

-- the first instance of a run, by how much the counters differ from one to the next, and how many instances it has
pub record Run : Type 0 where
  pub first : Instance
  pub step : List ℤ
  pub count : ℕ

-- the padded direction that the matrix maps to the last unit vector
pub record IsDirection (n : ℕ) (s : Schedule) (direction : List ℤ) : Type 0 where
  pub long : length direction ≡ n
  pub maps : product (matrix s) direction ≡ unit_row n (n - 1)

-- the point so many steps from a point
abbrev pub along : List ℤ → List ℤ → ℤ → List ℤ
along direction point steps = weighted (pos 1) point steps direction

-- the block of that rank has an instance of the cell at that padded point
pub record HasPoint (e : Extent) (cell : Cell) (rank : ℕ) (point : List ℤ) : Type 0 where
  pub at : Instance
  pub block : at.block ≡ rank
  pub lies : LiesIn e cell at
  pub there : padded e.table at ≡ point

-- the direction, cut to the block's counters with zeros after them; all zeros where there is one instance
abbrev pub step_of : Extent → List ℤ → Instance → ℕ → List ℤ
step_of e direction first count = if nat_lt 1 count then cut (counters e.table (block_of e.table first)) direction else replicate (depth e.table) (pos 0)

-- a run of the cell: its instances lie in the cell, and neither before the first nor after the last does one more
pub record IsRun (e : Extent) (direction : List ℤ) (cell : Cell) (r : Run) : Type 0 where
  pub some : 1 ≤ r.count
  pub first : LiesIn e cell r.first
  pub all : (k : ℕ) → k < r.count → HasPoint e cell r.first.block (along direction (padded e.table r.first) (pos k))
  pub begins : HasPoint e cell r.first.block (along direction (padded e.table r.first) (negsuc 0)) → ⊥
  pub ends : HasPoint e cell r.first.block (along direction (padded e.table r.first) (pos r.count)) → ⊥
  pub step : r.step ≡ step_of e direction r.first r.count

-- runs by the rank of the block, and then by the place of the first instance
abbrev pub run_key : Extent → Run → List ℤ
run_key e r = pos r.first.block ∷ place e.schedule (padded e.table r.first)

abbrev pub RunComes : Extent → Run → Run → Type 0
RunComes e r q = slice_cmp int_cmp (run_key e r) (run_key e q) ≡ Less

-- exactly the runs of the cell, by rank and then by place
pub record AreRunsOf (e : Extent) (direction : List ℤ) (cell : Cell) (runs : List Run) : Type 0 where
  pub ordered : Ordered (RunComes e) runs
  pub has : (r : Run) → Has runs r ↔ IsRun e direction cell r

-- exactly the runs of the cell, in the direction that the schedule's matrix maps to the last unit vector
pub record HasRuns (n : ℕ) (e : Extent) (cell : Cell) (list : List Run) : Type 0 where
  pub direction : List ℤ
  pub last : IsDirection n e.schedule direction
  pub runs : AreRunsOf e direction cell list
