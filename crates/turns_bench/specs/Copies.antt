-- The first instance of the nest, so many times in each of so many tiles.
use Rattle.std.specs.Prelude.{ℕ, zero, suc, pos, List, [], ◌∷◌}
use Rattle.core_steps.specs.declared.plan.Plan.{Plan}
use Rattle.core_steps.specs.Plans.{no_tile}
use Rattle.domain.specs.Instances.{Instance, instance}

abbrev pub first : Instance
first = instance 0 (pos 0 ∷ [])

abbrev pub copies : ℕ → List Instance
copies zero = []
copies (suc n) = first ∷ copies n

abbrev pub tiles_of : ℕ → ℕ → List (List Instance)
tiles_of zero each = []
tiles_of (suc n) each = copies each ∷ tiles_of n each

-- a tile that writes word 0
abbrev pub one_store : Plan
one_store = record { tiles = record { reads = []; writes = 0 ∷ [] } ∷ [] }

abbrev pub four_empty : Plan
four_empty = record { tiles = no_tile ∷ no_tile ∷ no_tile ∷ no_tile ∷ [] }
