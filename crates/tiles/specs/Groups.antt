-- Phases as they are gathered: one cell after another, each with its tile.
use Rattle.std.specs.Prelude.{◌-◌, Bool, false, ◌&&◌, if◌then◌else◌, List, [], ◌∷◌, ◌++◌, length, Option, Some, None, slice_get, slice_index_or, slice_set}
use Rattle.std.specs.Ordering.{int_eq}
use Rattle.std.specs.Cmp.Lexicographic.{pointwise}
use Rattle.core_steps.specs.declared.plan.Tile.{Tile}
use Rattle.skeletons.specs.Cells.{Cell}
use Rattle.tiles.specs.Plans.{Phase}

-- the test whether two cells have one phase key
abbrev pub has_key_of : Cell → Cell → Bool
has_key_of c d = pointwise int_eq c.lead d.lead && int_eq c.wave d.wave

-- a phase of one cell
abbrev pub alone : Cell → Tile → Phase
alone cell tile = record { cells = cell ∷ []; plan = record { tiles = tile ∷ [] } }

-- a phase with one cell more
abbrev pub grown : Phase → Cell → Tile → Phase
grown phase cell tile = record { cells = phase.cells ++ cell ∷ []; plan = record { tiles = phase.plan.tiles ++ tile ∷ [] } }

abbrev pub first_has_key : List Cell → Cell → Bool
first_has_key [] cell = false
first_has_key (c ∷ cells) cell = has_key_of c cell

abbrev pub begins_with_key : Phase → Cell → Bool
begins_with_key phase cell = first_has_key phase.cells cell

abbrev pub last_has_key : Option Phase → Cell → Bool
last_has_key None cell = false
last_has_key (Some phase) cell = begins_with_key phase cell

-- the last phase begins with a cell of this cell's key
abbrev pub ends_with_key : List Phase → Cell → Bool
ends_with_key phases cell = last_has_key (slice_get phases (length phases - 1)) cell

-- the phases with one cell more: it joins the last one where that has its key, and begins one of its own else
abbrev pub added : List Phase → Cell → Tile → List Phase
added phases cell tile =
    if ends_with_key phases cell
    then slice_set phases (length phases - 1) (grown (slice_index_or phases (length phases - 1) (alone cell tile)) cell tile)
    else phases ++ alone cell tile ∷ []
