-- The schedule list of a nest of n loops, n from 1 to 6.
use Rattle.std.specs.Prelude.{ℕ, zero, suc, ◌-◌, ◌*◌, ◌/◌, ◌%◌, ◌^◌, pos, nat_eq, nat_le, nat_lt, ◌&&◌, if◌then◌else◌, List, [], ◌∷◌, ◌++◌, map, Option, Some, None}
use Rattle.std.specs.List.{flat_map, range_with_len}
use Rattle.nest_lang.specs.declared.command.Command.{Command}
use Rattle.nest_lang.specs.declared.command.Command.TheVariants.{Skew, Swap}
use Rattle.transform.specs.Schedules.{Schedule}
use Rattle.transform.specs.Scripts.{meaning, schedule_from}
use Rattle.transform.specs.Standards.{tiles}

-- each row from the second has a factor from 0 to 3: those of place k are the n - 1 digits of k in base 4, that of the
-- second row the greatest
abbrev pub factor : ℕ → ℕ → ℕ → ℕ
factor n k row = (k / (4 ^ (n - row))) % 4

-- a row gains so many times the first; a factor of 0 has no command
abbrev pub skew_by : ℕ → ℕ → List Command
skew_by row zero = []
skew_by row (suc m) = Skew row 1 (pos (suc m)) ∷ []

abbrev pub skews : ℕ → ℕ → List Command
skews n k = flat_map (λ row. skew_by row (factor n k row)) (range_with_len 2 (n - 1))

-- the script of such factors: the skews, then tiles of size 4
abbrev pub skewed : ℕ → ℕ → List Command
skewed n k = skews n k ++ tiles 1 n (pos 4)

-- N, the number of all choices of factors
abbrev pub choices : ℕ → ℕ
choices n = 4 ^ (n - 1)

-- the script at a place, from 0: those of all choices of factors, and then the same behind an exchange of the first two
-- rows
abbrev pub script_at : ℕ → ℕ → List Command
script_at n k = if nat_lt k (choices n) then skewed n k else Swap 1 2 ∷ skewed n (k - choices n)

-- how many there are: one loop has no other to exchange
abbrev pub count : ℕ → ℕ
count n = if nat_eq n 1 then 1 else 2 * choices n

-- the script of a number, from 1
abbrev pub listed : ℕ → ℕ → Option (List Command)
listed n number = if (nat_le 1 n && nat_le n 6) && (nat_le 1 number && nat_le number (count n)) then Some (script_at n (number - 1)) else None

-- the schedule at a place, and all schedules of the list
abbrev pub schedule_at : ℕ → ℕ → Schedule
schedule_at n k = schedule_from (meaning n (script_at n k))

abbrev pub schedules : ℕ → List Schedule
schedules n = map (schedule_at n) (range_with_len 0 (count n))
