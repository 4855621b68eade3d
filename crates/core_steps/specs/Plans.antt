-- What the tiles of a plan touch.
use Rattle.std.specs.Prelude.{◌≡◌, ◌≢◌, ℕ, ◌<◌, Bool, true, false, ◌||◌, List, [], slice_index_or}
use Rattle.core_steps.specs.declared.plan.Tile.{Tile}
use Rattle.core_steps.specs.declared.plan.Plan.{Plan}
use Rattle.core_steps.specs.Numbers.{has}

abbrev pub no_tile : Tile
no_tile = record { reads = []; writes = [] }

abbrev pub no_plan : Plan
no_plan = record { tiles = [] }

-- the address is a write of the tile
abbrev pub writes_of : Tile → ℕ → Bool
writes_of tile a = has a tile.writes

-- the address is a read or a write of the tile
abbrev pub touches_of : Tile → ℕ → Bool
touches_of tile a = has a tile.reads || has a tile.writes

-- the tile of this number; a number past the end has a tile without addresses
abbrev pub tile_of : Plan → ℕ → Tile
tile_of plan k = slice_index_or plan.tiles k no_tile

abbrev pub writes : Plan → ℕ → ℕ → Bool
writes plan k a = writes_of (tile_of plan k) a

abbrev pub touches : Plan → ℕ → ℕ → Bool
touches plan k a = touches_of (tile_of plan k) a

-- no write of the first tile is a read or a write of the second
abbrev pub AreApart : Tile → Tile → Type 0
AreApart one other = (a : ℕ) → writes_of one a ≡ true → touches_of other a ≡ false

-- no write of this tile is a read or a write of another tile
abbrev pub WritesAlone : List Tile → ℕ → Type 0
WritesAlone tiles j = (k : ℕ) → j ≢ k → AreApart (slice_index_or tiles j no_tile) (slice_index_or tiles k no_tile)

-- no write of one tile is a read or a write of another tile
abbrev pub IsSeparate : Plan → Type 0
IsSeparate plan = (j : ℕ) → WritesAlone plan.tiles j

-- all addresses of the plan are below n
abbrev pub IsInside : ℕ → Plan → Type 0
IsInside n plan = (k a : ℕ) → touches plan k a ≡ true → a < n
