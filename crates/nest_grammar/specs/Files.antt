-- Files: what a file gives to run.
use Rattle.std.specs.Prelude.{ℕ, zero, suc, ◌+◌, ℤ, ◌+ℤ◌, pos, List, [], ◌∷◌, map, replicate, slice_set}
use Rattle.nest_lang.specs.declared.tree.Nest.{Nest}
use Rattle.nest_lang.specs.Stores.{Store}
use Rattle.nest_grammar.specs.declared.file.Item.{Item}
use Rattle.nest_grammar.specs.declared.file.Item.TheVariants.{Data, Ramp}
use Rattle.nest_grammar.specs.declared.file.File.{File}

-- the words from an address on are set to these values
abbrev pub set_words : ℕ → List ℤ → List ℤ → List ℤ
set_words first [] memory = memory
set_words first (v ∷ vs) memory = set_words (suc first) vs (slice_set memory first v)

-- so many words, each so far behind the last, are set to values that grow evenly
abbrev pub set_ramp : ℕ → ℕ → ℕ → ℤ → ℤ → List ℤ → List ℤ
set_ramp zero first stride start growth memory = memory
set_ramp (suc count) first stride start growth memory = set_ramp count (first + stride) stride (start +ℤ growth) growth (slice_set memory first start)

-- the memory after an item
abbrev pub after_item : List ℤ → Item → List ℤ
after_item memory (Data first values) = set_words first values memory
after_item memory (Ramp first count stride start growth) = set_ramp count first stride start growth memory

-- the memory after items, in their order: a later one overrides
abbrev pub after_items : List ℤ → List Item → List ℤ
after_items memory [] = memory
after_items memory (i ∷ is) = after_items (after_item memory i) is

-- the first memory: each word is 0 that no item sets
unfoldable pub first_memory : File → List ℤ
first_memory f = after_items (replicate f.words (pos 0)) f.items

-- the first store
abbrev pub first_store : File → Store
first_store f = record { memory = first_memory f; scalars = map (λ c. c.value) f.scalars; locals = [] }

-- the nests, which run one after another
abbrev pub nests_of : File → List Nest
nests_of f = map (λ u. u.nest) f.units
