-- What holds of the blocks of a nest.
use Rattle.std.specs.Prelude.{◌≡◌, ◌≢◌, ◌↔◌, ℕ, ◌≤◌, List, [], length, slice_get, Some}
use Rattle.nest_lang.specs.declared.tree.Head.{Head}
use Rattle.nest_lang.specs.declared.tree.Head.TheVariants.{For, While}
use Rattle.nest_lang.specs.declared.tree.Loop.{Loop}
use Rattle.nest_lang.specs.declared.tree.Stmt.{Stmt}
use Rattle.nest_lang.specs.declared.tree.Part.{Part}
use Rattle.nest_lang.specs.declared.tree.Part.TheVariants as part
use Rattle.nest_lang.specs.declared.tree.BlockRef.{BlockRef}
use Rattle.nest_lang.specs.Stores.{Store}
use Rattle.nest_lang.specs.Expressions.{Frame}
use Rattle.nest_lang.specs.Statements.{instance_trace}
use Rattle.nest_lang.specs.Blocks.{present_blocks, rank_of, loop_at}
use Rattle.nest_lang.specs.Places.{block_size}

-- an instance of a block has at most as many steps as the block has statements, nested ones counted
abbrev pub StepsWithinStatements : Type 0
StepsWithinStatements = (f : Frame) (block : List Stmt) (s : Store) → length (instance_trace f block s).entries ≤ block_size block

-- the head of a loop at a level is a present block, but for that of an outermost `for`
abbrev pub IsPresentHead : Head → ℕ → Type 0
IsPresentHead (For lower upper stride) level = 2 ≤ level
IsPresentHead (While condition) level = 1 ≤ level

-- a part of a loop at a level is a present block: its statements where it has any
abbrev pub IsPresentPart : Part → ℕ → Loop → Type 0
IsPresentPart part.Head level l = IsPresentHead l.head level
IsPresentPart part.Pre level l = l.pre ≢ []
IsPresentPart part.Post level l = l.post ≢ []

-- a block has a rank exactly where the nest has its level and that part of the loop there is a block
abbrev pub PresentBlocksHaveRanks : Type 0
PresentBlocksHaveRanks = (loops : List Loop) (block : BlockRef) → ((l : Loop) × (loop_at loops block.level ≡ Some l) × IsPresentPart block.part block.level l) ↔ ((rank : ℕ) × (rank_of loops block ≡ Some rank))

-- the block of a rank is the present block of that number
abbrev pub RanksAreNumbers : Type 0
RanksAreNumbers = (loops : List Loop) (block : BlockRef) (rank : ℕ) → (rank_of loops block ≡ Some rank) ↔ (slice_get (present_blocks loops) rank ≡ Some block)
