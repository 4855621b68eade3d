-- Original order: the padded point first, and then the rank of the block.
use Rattle.std.specs.Prelude.{ℕ, zero, suc, ◌+◌, ◌-◌, ℤ, pos, List, [], ◌∷◌, ◌++◌, length, map, if◌then◌else◌}
use Rattle.std.specs.Ordering.{int_cmp}
use Rattle.std.specs.Cmp.Lexicographic.{slice_cmp}
use Rattle.domain.specs.Tables.{text_place_by}
use Rattle.nest_lang.specs.Blocks.{same_block, present_blocks}
use Rattle.nest_lang.specs.declared.tree.BlockRef.{BlockRef}
use Rattle.nest_lang.specs.declared.tree.Loop.{Loop}
use Rattle.nest_lang.specs.declared.tree.Part.{Part}
use Rattle.nest_lang.specs.declared.tree.Part.TheVariants as part
use Rattle.nest_lang.specs.declared.state.Outer.{Outer}
use Rattle.orders.specs.Orders.{Ordered, Precedes}
use Rattle.follow.specs.Forecasts.{Forecast}
use Rattle.follow.specs.Plans.{turns_in, planned, Item}

abbrev pub zeros : ℕ → List ℕ
zeros zero = []
zeros (suc d) = 0 ∷ zeros d

-- what follows the counters of a post block: the expected turns of the next loop, and zeros
abbrev pub turns_and_zeros : ℕ → ℕ → List ℕ
turns_and_zeros zero n = []
turns_and_zeros (suc d) n = n ∷ zeros d

abbrev pub padded_by : Forecast → ℕ → Part → ℕ → List ℤ → List ℤ
padded_by p depth part.Head level cs = cs ++ map pos (zeros (depth - length cs))
padded_by p depth part.Pre level cs = cs ++ map pos (zeros (depth - length cs))
padded_by p depth part.Post level cs = cs ++ map pos (turns_and_zeros (depth - length cs) (turns_in (p.trip (record { part = part.Head; level = level + 1 }) cs)))

abbrev pub key_by : Forecast → ℕ → Part → ℕ → List ℤ → List ℤ
key_by p depth part level cs = padded_by p depth part level cs ++ pos (text_place_by depth part level) ∷ []

-- the padded point of an instance, and then its place in the text
abbrev pub key : Forecast → ℕ → Item → List ℤ
key p depth x = key_by p depth x.at.block.part x.at.block.level x.at.counters

-- the planned instances stand in the order of their padded points, and at one point in that of the text
abbrev pub PlannedInOrder : Type 0
PlannedInOrder = (p : Forecast) (loops : List Loop) (o : Outer) (c : ℕ) → Ordered (Precedes (slice_cmp int_cmp) (key p (length loops))) (planned p loops o c)

-- the number of a block in a list
abbrev pub rank_in : List BlockRef → BlockRef → ℕ
rank_in [] b = 0
rank_in (x ∷ xs) b = if same_block x b then 0 else suc (rank_in xs b)

-- the padded point of an instance, and then the rank of its block
abbrev pub ranked_key : Forecast → List Loop → Item → List ℤ
ranked_key p loops x = padded_by p (length loops) x.at.block.part x.at.block.level x.at.counters ++ pos (rank_in (present_blocks loops) x.at.block) ∷ []

-- the planned instances stand in original order: padded point first, then rank
abbrev pub PlannedInOriginalOrder : Type 0
PlannedInOriginalOrder = (p : Forecast) (loops : List Loop) (o : Outer) (c : ℕ) → Ordered (Precedes (slice_cmp int_cmp) (ranked_key p loops)) (planned p loops o c)
