-- Blocks: the present blocks of a nest, in the order of the text, and what stands in each.
use Rattle.std.specs.Prelude.{ℕ, zero, suc, ◌+◌, ◌-◌, nat_eq, List, [], ◌∷◌, ◌++◌, slice_get, Option, Some, None, option_map, Bool, true, false, ◌&&◌}
use Rattle.std.specs.Option.{option_and_then}
use Rattle.std.specs.List.{position}
use Rattle.nest_lang.specs.declared.tree.Head.{Head}
use Rattle.nest_lang.specs.declared.tree.Head.TheVariants.{For, While}
use Rattle.nest_lang.specs.declared.tree.Loop.{Loop}
use Rattle.nest_lang.specs.declared.tree.Stmt.{Stmt}
use Rattle.nest_lang.specs.declared.tree.Part.{Part}
use Rattle.nest_lang.specs.declared.tree.Part.TheVariants as part
use Rattle.nest_lang.specs.declared.tree.BlockRef.{BlockRef}

abbrev pub block_ref : Part → ℕ → BlockRef
block_ref part level = record { part = part; level = level }

-- a block with statements is present
abbrev pub block_if_any : Part → ℕ → List Stmt → List BlockRef
block_if_any part level [] = []
block_if_any part level (s ∷ ss) = block_ref part level ∷ []

-- the blocks of the heads and those before the inner loops, inwards from a level
abbrev pub opening : ℕ → List Loop → List BlockRef
opening level [] = []
opening level (l ∷ ls) = block_ref part.Head level ∷ block_if_any part.Pre level l.pre ++ opening (level + 1) ls

-- the blocks after the inner loops, outwards to a level
abbrev pub closing : ℕ → List Loop → List BlockRef
closing level [] = []
closing level (l ∷ ls) = closing (level + 1) ls ++ block_if_any part.Post level l.post

-- the head of the outermost loop is a block where it is a `while`
abbrev pub outermost : Head → List BlockRef
outermost (For lower upper stride) = []
outermost (While condition) = block_ref part.Head 1 ∷ []

-- the present blocks: the outermost head where it is a `while`, the block before the next loop, the next
-- head, and so on inwards, and then the blocks after the inner loops, outwards
unfoldable pub present_blocks : List Loop → List BlockRef
present_blocks [] = []
present_blocks (l ∷ ls) = outermost l.head ++ block_if_any part.Pre 1 l.pre ++ opening 2 ls ++ closing 1 (l ∷ ls)

-- the two blocks are one
abbrev pub same_part : Part → Part → Bool
same_part part.Head part.Head = true
same_part part.Pre part.Pre = true
same_part part.Post part.Post = true
same_part p q = false

abbrev pub same_block : BlockRef → BlockRef → Bool
same_block a b = same_part a.part b.part && nat_eq a.level b.level

-- the rank of a block: its number among the present ones, from 0, where it is one of them
abbrev pub rank_of : List Loop → BlockRef → Option ℕ
rank_of loops block = position (λ b. same_block b block) (present_blocks loops)

-- the loop at a level, from 1 for the outermost
abbrev pub loop_at : List Loop → ℕ → Option Loop
loop_at loops zero = None
loop_at loops (suc n) = slice_get loops n

-- the head of the loop at a level
abbrev pub head_at : List Loop → ℕ → Option Head
head_at loops level = option_map (λ (l : Loop). l.head) (loop_at loops level)

-- the statements of a part of a loop; its head has none
abbrev pub statements_by : Part → Loop → Option (List Stmt)
statements_by part.Head l = None
statements_by part.Pre l = Some l.pre
statements_by part.Post l = Some l.post

-- the statements of a block of a nest
abbrev pub statements_of : List Loop → BlockRef → Option (List Stmt)
statements_of loops block = option_and_then (statements_by block.part) (loop_at loops block.level)

-- how many turn numbers an occurrence of a block has: those of the loops around it and that of its own
-- loop, but for the head of a `for`, which runs before the turns of its loop
abbrev pub counters_by : Part → Head → ℕ → ℕ
counters_by part.Head (For lower upper stride) level = level - 1
counters_by part.Head (While condition) level = level
counters_by part.Pre h level = level
counters_by part.Post h level = level

abbrev pub counters_of : List Loop → BlockRef → Option ℕ
counters_of loops block = option_map (λ (h : Head). counters_by block.part h block.level) (head_at loops block.level)
