-- Frames: what a skeleton keeps of a chunk, and the instances of the places that its blocks have.
use Rattle.std.specs.Prelude.{◌≡◌, Bool, ◌&&◌, if◌then◌else◌, replicate, ℕ, suc, ℤ, ◌≤◌, ◌↔◌, List, [], ◌∷◌, length, map}
use Rattle.std.specs.Ordering.{int_cmp, is_eq}
use Rattle.std.specs.Cmp.Lexicographic.{slice_cmp}
use Rattle.level_walk.specs.Lattices.{HIGHEST, LOWEST}
use Rattle.std.specs.List.{All, range_with_len}
use Rattle.affine.specs.Matrices.{product}
use Rattle.affine.specs.Rows.{Meets}
use Rattle.plain_lemmas.specs.Lists.{Has}
use Rattle.domain.specs.Tables.{IsTable, block_at, counters, cut}
use Rattle.domain.specs.Instances.{Instance, Predicted, counter, instance, padded}
use Rattle.transform.specs.Schedules.{IsSchedule, place}
use Rattle.level_walk.specs.declared.merges.Best.{Best}
use Rattle.level_walk.specs.declared.scans.BlockScan.{BlockScan}
use Rattle.level_walk.specs.declared.scans.BlockScan.TheVariants.{Scanned, Listed}
use Rattle.level_walk.specs.Merges.{merged}
use Rattle.level_walk.specs.Walks.{AreBlocks, all_points}
use Rattle.skeletons.specs.Cells.{Cell, Extent, IsLaunch, cell_of}

-- the numbers of the columns in one row
abbrev pub entries : List (List ℤ) → ℕ → List ℤ
entries columns row = map (λ column. counter column row) columns

-- the matrix of these columns
abbrev pub transposed : ℕ → List (List ℤ) → List (List ℤ)
transposed n columns = map (entries columns) (range_with_len 0 n)

-- the block of that rank has a predicted instance at this place
pub record IsPlaceOf (e : Extent) (rank : ℕ) (z : List ℤ) : Type 0 where
  pub at : Instance
  pub predicted : Predicted e.table e.chunk at
  pub block : at.block ≡ rank
  pub there : place e.schedule (padded e.table at) ≡ z

-- exactly the places of the block are found: they meet the rows, or they are listed
abbrev pub Finds : ℕ → Extent → ℕ → BlockScan → Type 0
Finds n e rank (Scanned block) = (z : List ℤ) → length z ≡ n → All (Meets z) block.rows.items ↔ IsPlaceOf e rank z
Finds n e rank (Listed block) = (z : List ℤ) → Has (map (λ point. point.items) block.points.items) z ↔ IsPlaceOf e rank z

-- and so of each block
abbrev pub AllFind : ℕ → Extent → ℕ → List BlockScan → Type 0
AllFind n e rank [] = Unit {0}
AllFind n e rank (block ∷ blocks) = Finds n e rank block × AllFind n e (suc rank) blocks

-- the inverse leads from a place to its padded point and back, and the blocks find their places
pub record IsFrame (n : ℕ) (e : Extent) (inverse : List (List ℤ)) (blocks : List BlockScan) : Type 0 where
  pub some : 1 ≤ n
  pub few : n ≤ 6
  pub table : IsTable n e.table
  pub schedule : IsSchedule n e.schedule
  pub launch : IsLaunch e.table e.chunk
  pub there : (p : List ℤ) → length p ≡ n → product inverse (place e.schedule p) ≡ p
  pub count : length blocks ≡ length e.table.blocks
  pub scans : AreBlocks n blocks
  pub finds : AllFind n e 0 blocks

-- the instance at a place
abbrev pub instance_at : Extent → List (List ℤ) → Best → Instance
instance_at e inverse best = instance best.rank (cut (counters e.table (block_at e.table best.rank)) (product inverse best.point.items))

-- the instances in a box, by place and then by rank
abbrev pub list_in : Extent → List (List ℤ) → List BlockScan → List ℤ → List ℤ → List Instance
list_in e inverse blocks lows highs = map (instance_at e inverse) (merged (all_points lows highs blocks))

-- all instances of the chunk
abbrev pub all_in : Extent → List (List ℤ) → List BlockScan → ℕ → List Instance
all_in e inverse blocks n = list_in e inverse blocks (replicate n LOWEST) (replicate n HIGHEST)

abbrev pub is_cell : Cell → Cell → Bool
is_cell c d = (is_eq (slice_cmp int_cmp c.lead d.lead) && is_eq (slice_cmp int_cmp (c.wave ∷ []) (d.wave ∷ []))) && is_eq (slice_cmp int_cmp c.tile d.tile)

abbrev pub chosen : (Instance → Bool) → List Instance → List Instance
chosen p [] = []
chosen p (x ∷ xs) = if p x then x ∷ chosen p xs else chosen p xs

-- the instances of a cell
abbrev pub list_of : Extent → List (List ℤ) → List BlockScan → ℕ → Cell → List Instance
list_of e inverse blocks n cell = chosen (λ x. is_cell cell (cell_of e.schedule (padded e.table x))) (all_in e inverse blocks n)

abbrev pub lists_of : Extent → List (List ℤ) → List BlockScan → ℕ → List Cell → List (List Instance)
lists_of e inverse blocks n cells = map (list_of e inverse blocks n) cells
