-- Walks: the list of each tile, and what remains of the tile that was entered.
use Rattle.std.specs.Prelude.{ℕ, ℤ, ◌≤◌, List, length, map}
use Rattle.plain_lemmas.specs.Lists.{Has}
use Rattle.domain.specs.Instances.{Instance}
use Rattle.level_walk.specs.declared.merges.Best.{Best}
use Rattle.level_walk.specs.declared.scans.BlockScan.{BlockScan}
use Rattle.level_walk.specs.declared.states.State.{State}
use Rattle.level_walk.specs.Merges.{AllOrdered, merged}
use Rattle.level_walk.specs.Walks.{AllStand, IsBox, all_left}
use Rattle.skeletons.specs.Cells.{Cell, Extent}
use Rattle.skeletons.specs.Frames.{IsFrame, IsPlaceOf, instance_at}

pub record Lists : Type 0 where
  pub lists : List (List Instance)
  pub rest : List Instance

-- the instances that the blocks have left in a box, by place and then by rank
abbrev pub rest_in : Extent → List (List ℤ) → List BlockScan → List ℤ → List ℤ → List State → List Instance
rest_in e inverse blocks lows highs states = map (instance_at e inverse) (merged (all_left lows highs blocks states))

-- the walk of the blocks in a box
pub record WalkStands (n : ℕ) (e : Extent) (inverse : List (List ℤ)) (blocks : List BlockScan) (cells : List Cell) (lows highs : List ℤ) (states : List State) : Type 0 where
  pub frame : IsFrame n e inverse blocks
  pub few : length cells ≤ 4294967295
  pub inside : IsBox n lows highs
  pub stand : AllStand lows highs blocks states
  pub ordered : AllOrdered (all_left lows highs blocks states)
  pub places : (best : Best) → Has (merged (all_left lows highs blocks states)) best → IsPlaceOf e best.rank best.point.items
