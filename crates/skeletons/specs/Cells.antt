-- Cells: the predicted instances of a chunk that share phase key and tile.
use Rattle.std.specs.Prelude.{◌≡◌, ℕ, ℤ, pos, ◌≤ℤ◌, ◌^◌, List, [], ◌∷◌, ◌++◌, ◌↔◌}
use Rattle.std.specs.Ordering.{int_cmp, ordering_then}
use Rattle.std.specs.declared.cmp.Ordering.TheVariants.{Less}
use Rattle.std.specs.Cmp.Lexicographic.{slice_cmp}
use Rattle.orders.specs.Orders.{Ordered}
use Rattle.plain_lemmas.specs.Lists.{Has}
use Rattle.domain.specs.declared.chunk.Chunk.{Chunk}
use Rattle.domain.specs.Tables.{Table}
use Rattle.domain.specs.Instances.{Instance, Predicted, padded}
use Rattle.domain.specs.Launches.{IsLaunched}
use Rattle.transform.specs.Schedules.{Schedule, place, wave, wide_lead, wide_tile}

-- what is scanned: the chunk of a table, in the order of a schedule
pub record Extent : Type 0 where
  pub table : Table
  pub schedule : Schedule
  pub chunk : Chunk

-- a chunk of 1 to 1,024 turns that is launched, from a turn from 0 to 2^32
pub record IsLaunch (t : Table) (chunk : Chunk) : Type 0 where
  pub first : pos 0 ≤ℤ chunk.first
  pub far : chunk.first ≤ℤ pos (2 ^ 32)
  pub some : pos 1 ≤ℤ chunk.turns
  pub few : chunk.turns ≤ℤ pos 1024
  pub words : ℤ
  pub instances : ℕ
  pub launched : IsLaunched t words chunk instances

-- a cell: the leading numbers and the wave of a phase key, and a tile, with zeros in the rows that have none
pub record Cell : Type 0 where
  pub lead : List ℤ
  pub wave : ℤ
  pub tile : List ℤ

-- the cell of a padded point
abbrev pub cell_of : Schedule → List ℤ → Cell
cell_of s p = record { lead = wide_lead s p; wave = wave s p; tile = wide_tile s p }

-- the instance is predicted for the chunk, and its padded point lies in the cell
pub record LiesIn (e : Extent) (cell : Cell) (x : Instance) : Type 0 where
  pub predicted : Predicted e.table e.chunk x
  pub inside : cell_of e.schedule (padded e.table x) ≡ cell

-- ---- the list of a cell: place first, and then rank

abbrev pub place_key : Extent → Instance → List ℤ
place_key e x = place e.schedule (padded e.table x) ++ pos x.block ∷ []

abbrev pub Comes : Extent → Instance → Instance → Type 0
Comes e x y = slice_cmp int_cmp (place_key e x) (place_key e y) ≡ Less

-- exactly the instances of the cell, by place and then by rank, and so each once
pub record IsListOf (e : Extent) (cell : Cell) (xs : List Instance) : Type 0 where
  pub ordered : Ordered (Comes e) xs
  pub has : (x : Instance) → Has xs x ↔ LiesIn e cell x

-- the lists of some cells, one for each, in their order
abbrev pub AreListsOf : Extent → List Cell → List (List Instance) → Type 0
AreListsOf e [] [] = Unit {0}
AreListsOf e [] (xs ∷ lists) = ⊥
AreListsOf e (cell ∷ cells) [] = ⊥
AreListsOf e (cell ∷ cells) (xs ∷ lists) = IsListOf e cell xs × AreListsOf e cells lists

-- ---- the cells of a chunk: phase key first, and then tile

abbrev pub CellComes : Cell → Cell → Type 0
CellComes c d = ordering_then (slice_cmp int_cmp c.lead d.lead) (ordering_then (int_cmp c.wave d.wave) (slice_cmp int_cmp c.tile d.tile)) ≡ Less

-- exactly the cells that have an instance, by phase key and then by tile, and so each once
pub record AreCellsOf (e : Extent) (cells : List Cell) : Type 0 where
  pub ordered : Ordered CellComes cells
  pub has : (cell : Cell) → Has cells cell ↔ ((x : Instance) × LiesIn e cell x)
