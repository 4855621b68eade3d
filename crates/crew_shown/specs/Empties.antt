-- Tiles without instances.
use Rattle.std.specs.Prelude.{ℕ, List, [], replicate}
use Rattle.domain.specs.Instances.{Instance}

-- so many tiles, none of which has an instance
abbrev pub empties : ℕ → List (List Instance)
empties tiles = replicate tiles []
