-- Walks: what the makers of walks keep.
use Rattle.std.specs.Prelude.{◌<◌, ◌^◌, ℕ, List, length}
use Rattle.domain.specs.Instances.{Instance}
use Rattle.skeletons.specs.Cells.{Cell, Extent, AreListsOf}

-- the lists of some cells of a chunk of at most 6 loops, fewer than 2^32
pub record AreWalked (D : ℕ) (e : Extent) (cells : List Cell) (lists : List (List Instance)) : Type 0 where
  pub deep : D < 7
  pub few : length cells < 2 ^ 32
  pub are : AreListsOf e cells lists
