-- Places: instances and accesses of a nest, as lines name them.
use Rattle.std.specs.Prelude.{ℕ, List, slice_index_or, take}
use Rattle.std.specs.Option.{unwrap_or}
use Rattle.nest_lang.specs.declared.tree.AccessRef.{AccessRef}
use Rattle.nest_lang.specs.declared.tree.BlockRef.{BlockRef}
use Rattle.nest_lang.specs.declared.tree.Loop.{Loop}
use Rattle.nest_lang.specs.declared.tree.Part.TheVariants.{Head}
use Rattle.nest_lang.specs.Blocks.{block_ref, present_blocks, counters_of}
use Rattle.domain.specs.Instances.{Instance}
use Rattle.report.specs.declared.line.At.{At}
use Rattle.report.specs.declared.line.Spot.{Spot}

-- the present block of a rank; past the last rank there is none
unfoldable pub block_of : List Loop → ℕ → BlockRef
block_of loops rank = slice_index_or (present_blocks loops) rank (block_ref Head 0)

-- the counters that a block has
abbrev pub count_of : List Loop → BlockRef → ℕ
count_of loops block = unwrap_or (counters_of loops block) 0

-- an instance: the block of its rank, and the counters that this block has
unfoldable pub at_of : List Loop → Instance → At
at_of loops x = record { block = block_of loops x.block; counters = record { items = take (count_of loops (block_of loops x.block)) x.at } }

-- an access: the block of its block's rank, and its number
unfoldable pub spot_of : List Loop → AccessRef → Spot
spot_of loops access = record { block = block_of loops access.block; access = access.access }
