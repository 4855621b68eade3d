-- Schedules: the phase key, the tile and the place of a point.
use Rattle.std.specs.Prelude.{◌≡◌, ℕ, ◌<◌, ◌≤◌, ◌-◌, ℤ, pos, ◌+ℤ◌, Bool, if◌then◌else◌, List, [], ◌∷◌, ◌++◌, map, take, drop, length, replicate, slice_index_or, false}
use Rattle.std.specs.Int.{int_div_euclid}
use Rattle.std.specs.List.{All}
use Rattle.affine.specs.Sums.{dot}
use Rattle.affine.specs.Matrices.{HasSmallEntries, IsOneToOne, IsOnto}
use Rattle.affine.specs.Inverses.{IsSquare}

-- a row of the matrix, the size of its tiles, and whether it is parallel; a row that isn't is a wave row
pub record Line : Type 0 where
  pub row : List ℤ
  pub size : ℕ
  pub parallel : Bool

-- the rows, and how many of them lead; those after the leading ones are the band
pub record Schedule : Type 0 where
  pub lines : List Line
  pub seq : ℕ

-- the line of a row, whose number is from 0
abbrev pub line_at : Schedule → ℕ → Line
line_at s row = slice_index_or s.lines row (record { row = []; size = 0; parallel = false })

abbrev pub matrix : Schedule → List (List ℤ)
matrix s = map (λ l. l.row) s.lines

abbrev pub leading : Schedule → List Line
leading s = take s.seq s.lines

abbrev pub band : Schedule → List Line
band s = drop s.seq s.lines

-- where a point lies along a row, and in which of its tiles
abbrev pub along : List ℤ → Line → ℤ
along p l = dot l.row p

abbrev pub tile_along : List ℤ → Line → ℤ
tile_along p l = int_div_euclid (along p l) (pos l.size)

-- the place: the matrix times the point
abbrev pub place : Schedule → List ℤ → List ℤ
place s p = map (along p) s.lines

-- the leading numbers of the place
abbrev pub lead : Schedule → List ℤ → List ℤ
lead s p = map (along p) (leading s)

-- the tile: in each band row the number of the row's tile
abbrev pub tile : Schedule → List ℤ → List ℤ
tile s p = map (tile_along p) (band s)

-- the wave: the sum of the tile numbers of these wave rows
abbrev pub wave_of : List ℤ → List Line → ℤ
wave_of p [] = pos 0
wave_of p (l ∷ ls) = (if l.parallel then pos 0 else tile_along p l) +ℤ wave_of p ls

abbrev pub wave : Schedule → List ℤ → ℤ
wave s p = wave_of p (band s)

-- the phase key: the leading numbers, then the wave of the band
abbrev pub phase : Schedule → List ℤ → List ℤ
phase s p = lead s p ++ wave s p ∷ []

-- the leading numbers with a 0 for each band row, and the tile with a 0 for each leading row
abbrev pub wide_lead : Schedule → List ℤ → List ℤ
wide_lead s p = lead s p ++ replicate (length s.lines - s.seq) (pos 0)

abbrev pub wide_tile : Schedule → List ℤ → List ℤ
wide_tile s p = replicate s.seq (pos 0) ++ tile s p

-- what scripts of a nest of n loops make: n rows of n numbers, of at most 2^20 in size, that map points of n numbers
-- one to one and onto; sizes from 1 to 65,536
pub record IsSchedule (n : ℕ) (s : Schedule) : Type 0 where
  pub long : length s.lines ≡ n
  pub leads : s.seq ≤ n
  pub sizes : All (λ (l : Line). 0 < l.size) s.lines
  pub limit : All (λ (l : Line). l.size ≤ 65536) s.lines
  pub square : IsSquare n (matrix s)
  pub small : HasSmallEntries (matrix s)
  pub one : IsOneToOne n (matrix s)
  pub onto : IsOnto n (matrix s)

-- what every schedule keeps beside that its columns are the inverse of its rows: n rows; entries of at most 2^20 in size; at
-- most n rows lead; sizes from 1 to 65,536
pub record IsMade (n : ℕ) (rows columns : List (List ℤ)) (seq : ℕ) (sizes : List ℕ) : Type 0 where
  pub many : length rows ≡ n
  pub small : HasSmallEntries rows
  pub small_columns : HasSmallEntries columns
  pub leads : seq ≤ n
  pub some : All (λ (size : ℕ). 0 < size) sizes
  pub limit : All (λ (size : ℕ). size ≤ 65536) sizes
