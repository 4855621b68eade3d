-- What a script means: its commands apply in order.
use Rattle.std.specs.Prelude.{ℕ, ◌-◌, ℤ, pos, Bool, true, false, not, ◌&&◌, nat_eq, nat_le, int_lt, unsigned_abs, List, [], ◌∷◌, length, replicate, slice_set, swap, if◌then◌else◌, Option, Some, None}
use Rattle.std.specs.List.{count_by, fold, list_all}
use Rattle.nest_lang.specs.declared.command.Command.{Command}
use Rattle.nest_lang.specs.declared.command.Command.TheVariants.{Seq, Swap, Skew, Tile, Par, Wave}
use Rattle.affine.specs.Matrices.{identity, skew}
use Rattle.transform.specs.Schedules.{Line, Schedule}

-- ---- the parts of a schedule

-- a matrix, how many of its rows lead, and for each row the size of its tiles and whether it is parallel
pub record Parts : Type 0 where
  pub rows : List (List ℤ)
  pub seq : ℕ
  pub sizes : List ℕ
  pub parallel : List Bool

-- the unit matrix, no leading rows, tiles of size 1, each row a wave row
abbrev pub untouched : ℕ → Parts
untouched n = record { rows = identity n; seq = 0; sizes = replicate n 1; parallel = replicate n false }

-- the parts row by row
abbrev pub lines_of : List (List ℤ) → List ℕ → List Bool → List Line
lines_of (row ∷ rows) (size ∷ sizes) (mark ∷ marks) = record { row = row; size = size; parallel = mark } ∷ lines_of rows sizes marks
lines_of _ _ _ = []

abbrev pub schedule_from : Parts → Schedule
schedule_from parts = record { lines = lines_of parts.rows parts.sizes parts.parallel; seq = parts.seq }

-- ---- what a command does; rows are numbered from 1

-- these rows get the mark
abbrev pub marked : Bool → List ℕ → List Bool → List Bool
marked mark rows marks = fold (λ (before : List Bool) (row : ℕ). slice_set before (row - 1) mark) marks rows

-- an exchange moves rows of the matrix alone: sizes and marks belong to the places of rows
abbrev pub applied : Command → Parts → Parts
applied (Seq count) parts = record parts { seq = count }
applied (Swap a b) parts = record parts { rows = swap parts.rows (a - 1) (b - 1) }
applied (Skew a b m) parts = record parts { rows = skew parts.rows (a - 1) (b - 1) m }
applied (Tile a size) parts = record parts { sizes = slice_set parts.sizes (a - 1) (unsigned_abs size) }
applied (Par rows) parts = record parts { parallel = marked true rows.items parts.parallel }
applied (Wave rows) parts = record parts { parallel = marked false rows.items parts.parallel }

-- the parts that a script makes
abbrev pub meaning : ℕ → List Command → Parts
meaning n script = fold (λ parts command. applied command parts) (untouched n) script

-- ---- the rules

-- the number of a row, from 1 to n
abbrev pub is_row : ℕ → ℕ → Bool
is_row n row = nat_le 1 row && nat_le row n

-- 1 to 6 rows
abbrev pub are_rows : ℕ → List ℕ → Bool
are_rows n rows = (nat_le 1 (length rows) && nat_le (length rows) 6) && list_all (is_row n) rows

-- a size from 1 to 65,536
abbrev pub is_size : ℤ → Bool
is_size size = not (int_lt size (pos 1)) && not (int_lt (pos 65536) size)

-- what a command has to keep by itself: at most n leading rows; two different rows; a factor from -8 to 8
abbrev pub keeps_rule : ℕ → Command → Bool
keeps_rule n (Seq count) = nat_le count n
keeps_rule n (Swap a b) = (is_row n a && is_row n b) && not (nat_eq a b)
keeps_rule n (Skew a b m) = ((is_row n a && is_row n b) && not (nat_eq a b)) && nat_le (unsigned_abs m) 8
keeps_rule n (Tile a size) = is_row n a && is_size size
keeps_rule n (Par rows) = are_rows n rows.items
keeps_rule n (Wave rows) = are_rows n rows.items

abbrev pub is_seq : Command → Bool
is_seq (Seq _) = true
is_seq _ = false

abbrev pub is_skew : Command → Bool
is_skew (Skew _ _ _) = true
is_skew _ = false

-- each command keeps its rule, at most one says how many rows lead, and at most 6 are skews
abbrev pub keeps_rules : ℕ → List Command → Bool
keeps_rules n script = list_all (keeps_rule n) script && (nat_le (count_by is_seq script) 1 && nat_le (count_by is_skew script) 6)

-- the schedule of a script; none where a rule is broken
abbrev pub schedule_of : ℕ → List Command → Option Schedule
schedule_of n script = if keeps_rules n script then Some (schedule_from (meaning n script)) else None
