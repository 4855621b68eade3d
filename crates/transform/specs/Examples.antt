-- Schedules with known answers, computed by the definitions.
use Rattle.std.specs.Prelude.{◌≡◌, ◌∷◌, [], pos, negsuc, refl, Some, None, option_map}
use Rattle.nest_lang.specs.declared.command.Command.TheVariants.{Seq, Swap, Skew, Tile}
use Rattle.transform.specs.Schedules.{phase, place, tile}
use Rattle.transform.specs.Scripts.{schedule_of}
use Rattle.transform.specs.Standards.{parallel_row, standard}

-- `skew 2 1 1; tile 1 4; tile 2 4` at (5, 2): place (5, 7), tile (1, 1), and the wave 2 alone as the phase key
skewed-place : option_map (λ s. place s (pos 5 ∷ pos 2 ∷ [])) (schedule_of 2 (Skew 2 1 (pos 1) ∷ Tile 1 (pos 4) ∷ Tile 2 (pos 4) ∷ [])) ≡ Some (pos 5 ∷ pos 7 ∷ [])
skewed-place = refl

skewed-tile : option_map (λ s. tile s (pos 5 ∷ pos 2 ∷ [])) (schedule_of 2 (Skew 2 1 (pos 1) ∷ Tile 1 (pos 4) ∷ Tile 2 (pos 4) ∷ [])) ≡ Some (pos 1 ∷ pos 1 ∷ [])
skewed-tile = refl

skewed-phase : option_map (λ s. phase s (pos 5 ∷ pos 2 ∷ [])) (schedule_of 2 (Skew 2 1 (pos 1) ∷ Tile 1 (pos 4) ∷ Tile 2 (pos 4) ∷ [])) ≡ Some (pos 2 ∷ [])
skewed-phase = refl

-- `skew 2 1 -1; tile 2 4` at (5, 2): -3 lies in the tile -1
negative-tile : option_map (λ s. tile s (pos 5 ∷ pos 2 ∷ [])) (schedule_of 2 (Skew 2 1 (negsuc 0) ∷ Tile 2 (pos 4) ∷ [])) ≡ Some (pos 5 ∷ negsuc 0 ∷ [])
negative-tile = refl

negative-phase : option_map (λ s. phase s (pos 5 ∷ pos 2 ∷ [])) (schedule_of 2 (Skew 2 1 (negsuc 0) ∷ Tile 2 (pos 4) ∷ [])) ≡ Some (pos 4 ∷ [])
negative-phase = refl

-- `tile 1 4; swap 1 2; par 1` at (5, 2): the size stays with row 1, which maps to 2 now, and the sum is of row 2 alone
swapped-tile : option_map (λ s. tile s (pos 5 ∷ pos 2 ∷ [])) (schedule_of 2 (Tile 1 (pos 4) ∷ Swap 1 2 ∷ parallel_row 1 ∷ [])) ≡ Some (pos 0 ∷ pos 5 ∷ [])
swapped-tile = refl

swapped-phase : option_map (λ s. phase s (pos 5 ∷ pos 2 ∷ [])) (schedule_of 2 (Tile 1 (pos 4) ∷ Swap 1 2 ∷ parallel_row 1 ∷ [])) ≡ Some (pos 5 ∷ [])
swapped-phase = refl

-- `seq 1` at (5, 2): the first row leads, and the sum is of the second alone
leading-phase : option_map (λ s. phase s (pos 5 ∷ pos 2 ∷ [])) (schedule_of 2 (Seq 1 ∷ [])) ≡ Some (pos 5 ∷ pos 2 ∷ [])
leading-phase = refl

-- how many rows lead is said once
second-seq : schedule_of 2 (Seq 1 ∷ Seq 1 ∷ []) ≡ None
second-seq = refl

-- rows are numbered from 1
row-zero : schedule_of 2 (Tile 0 (pos 4) ∷ []) ≡ None
row-zero = refl

-- there are five candidates for two loops
no-sixth : standard 2 6 ≡ None
no-sixth = refl
