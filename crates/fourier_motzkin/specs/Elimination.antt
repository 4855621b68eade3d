-- Eliminating a variable from a tidied set of rows.
use Rattle.std.specs.Prelude.{◌≡◌, ◌^◌, ℕ, ℤ, pos, neg_ℤ, Bool, ◌||◌, nat_lt, int_lt, List, ◌++◌, map, filter, length, if◌then◌else◌}
use Rattle.std.specs.Ordering.{int_eq}
use Rattle.std.specs.List.{All, flat_map, list_any}
use Rattle.affine.specs.declared.row.Row.{Row}
use Rattle.affine.specs.Rows.{Meets, coefficient, combination, variables}
use Rattle.fourier_motzkin.specs.RowSets.{IsWithin, tidied, is_false, is_wide}
use Rattle.fourier_motzkin.specs.declared.elimination.Eliminated.{Eliminated}
use Rattle.fourier_motzkin.specs.declared.elimination.Eliminated.TheVariants.{False, Wide, Rows}

-- what is said of a tidied set, in this order: it has a false row without variables; a number is above 2^62 in
-- size; it has more than 512 rows; otherwise it stands
abbrev pub judged : List Row → Eliminated
judged rows = if list_any is_false rows then False else (if list_any is_wide rows || nat_lt 512 (length rows) then Wide else Rows rows)

-- a row whose coefficient on the variable is 0, above 0, below 0
abbrev pub is_without : ℕ → Row → Bool
is_without variable row = int_eq (coefficient row variable) (pos 0)

abbrev pub bounds_below : ℕ → Row → Bool
bounds_below variable row = int_lt (pos 0) (coefficient row variable)

abbrev pub bounds_above : ℕ → Row → Bool
bounds_above variable row = int_lt (coefficient row variable) (pos 0)

-- of a row P with the coefficient p > 0 and a row N with -q < 0, the row q·P + p·N, which doesn't have the variable
abbrev pub crossed : ℕ → Row → Row → Row
crossed variable P N = combination (neg_ℤ (coefficient N variable)) P (coefficient P variable) N

-- the rows without the variable, and q·P + p·N for each such pair
unfoldable pub projected : ℕ → List Row → List Row
projected variable rows =
    filter (is_without variable) rows
    ++ flat_map (λ P. map (crossed variable P) (filter (bounds_above variable) rows)) (filter (bounds_below variable) rows)

-- eliminating a variable
unfoldable pub eliminated : ℕ → List Row → Eliminated
eliminated variable rows = judged (tidied (projected variable rows))

-- every row has so many variables
abbrev pub AllOver : ℕ → List Row → Type 0
AllOver n rows = All (λ row. variables row ≡ n) rows

-- a point meets what is said of a set: none meets False, each meets Wide, and rows are met where each row is
abbrev pub MeetsSaid : List ℤ → Eliminated → Type 0
MeetsSaid point False = ⊥
MeetsSaid point Wide = Unit {0}
MeetsSaid point (Rows rows) = All (Meets point) rows

-- what is said of rows over so many variables: rows that stand have that many, and numbers of at most 2^62 in size
abbrev pub IsSound : ℕ → Eliminated → Type 0
IsSound n False = Unit {0}
IsSound n Wide = Unit {0}
IsSound n (Rows rows) = AllOver n rows × All (IsWithin (2 ^ 62)) rows
