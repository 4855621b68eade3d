-- Blocks: the places of the predicted instances of a block.
use Rattle.std.specs.Prelude.{◌≡◌, ℕ, ℤ, List}
use Rattle.domain.specs.Instances.{Instance, Predicted, padded}
use Rattle.domain.specs.declared.chunk.Chunk.{Chunk}
use Rattle.domain.specs.Tables.{Table}

-- the block of that rank has a predicted instance with this padded point
pub record IsPointOf (t : Table) (chunk : Chunk) (rank : ℕ) (p : List ℤ) : Type 0 where
  pub at : Instance
  pub predicted : Predicted t chunk at
  pub block : at.block ≡ rank
  pub there : padded t at ≡ p
