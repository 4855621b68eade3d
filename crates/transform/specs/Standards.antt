-- The standard candidates, by the number of loops.
use Rattle.std.specs.Prelude.{ℕ, ◌+◌, ◌-◌, ℤ, pos, zero, suc, List, [], ◌∷◌, ◌++◌, map, slice_get, Option, None}
use Rattle.std.specs.List.{range_with_len}
use Rattle.std.specs.Option.{option_and_then}
use Rattle.nest_lang.specs.declared.command.Command.{Command}
use Rattle.nest_lang.specs.declared.command.Command.TheVariants.{Seq, Skew, Tile, Par}
use Rattle.transform.specs.Schedules.{Schedule}
use Rattle.transform.specs.Scripts.{schedule_of}

-- a size for each row from the first one given to row n
abbrev pub tiles : ℕ → ℕ → ℤ → List Command
tiles first n size = map (λ a. Tile a size) (range_with_len first ((n + 1) - first))

-- each row from the second to row n gains the first
abbrev pub skews : ℕ → List Command
skews n = map (λ a. Skew a 1 (pos 1)) (range_with_len 2 (n - 1))

abbrev pub parallel_row : ℕ → Command
parallel_row a = Par (record { items = a ∷ [] })

-- the table of scripts for n loops
abbrev pub standard_scripts : ℕ → List (List Command)
standard_scripts (suc zero) =
    (parallel_row 1 ∷ tiles 1 1 (pos 8))
    ∷ tiles 1 1 (pos 8)
    ∷ []
standard_scripts n =
    (parallel_row 1 ∷ tiles 1 n (pos 8))
    ∷ (Seq 1 ∷ parallel_row 2 ∷ tiles 2 n (pos 8))
    ∷ tiles 1 n (pos 4)
    ∷ (skews n ++ tiles 1 n (pos 4))
    ∷ (Seq (n - 1) ∷ Tile n (pos 8) ∷ [])
    ∷ []

-- the script of a number, from 1
abbrev pub standard_script : ℕ → ℕ → Option (List Command)
standard_script n zero = None
standard_script n (suc number) = slice_get (standard_scripts n) number

-- the standard candidate of a number, from 1
abbrev pub standard : ℕ → ℕ → Option Schedule
standard n number = option_and_then (schedule_of n) (standard_script n number)
