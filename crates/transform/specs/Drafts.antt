-- A script that is read command by command, until a rule is broken. What comes of it is `schedule_of` of Scripts.
use Rattle.std.specs.Prelude.{ℕ, ℤ, ◌+◌, ◌<◌, ◌≤◌, ◌≡◌, ◌^◌, length, Bool, false, not, ◌&&◌, ◌||◌, nat_lt, List, [], ◌∷◌, if◌then◌else◌, Option, Some, None}
use Rattle.std.specs.List.{All}
use Rattle.std.specs.Option.{option_and_then}
use Rattle.nest_lang.specs.declared.command.Command.{Command}
use Rattle.affine.specs.Forms.{AllWithinSize}
use Rattle.transform.specs.Scripts.{Parts, applied, is_seq, is_skew, keeps_rule, untouched}

-- the parts so far, whether a command has said how many rows lead, and the number of skews
pub record Draft : Type 0 where
  pub parts : Parts
  pub led : Bool
  pub skews : ℕ

abbrev pub new_draft : ℕ → Draft
new_draft n = record { parts = untouched n; led = false; skews = 0 }

-- the command comes neither as a second `seq` nor as a seventh skew
abbrev pub has_room : Draft → Command → Bool
has_room draft command = not (draft.led && is_seq command) && (not (is_skew command) || nat_lt draft.skews 6)

-- the draft after a command
abbrev pub extended : Draft → Command → Draft
extended draft command = record {
  parts = applied command draft.parts;
  led = draft.led || is_seq command;
  skews = draft.skews + (if is_skew command then 1 else 0);
}

abbrev pub drafted : ℕ → Draft → Command → Option Draft
drafted n draft command = if keeps_rule n command && has_room draft command then Some (extended draft command) else None

-- the draft after all these commands; none where a rule is broken
abbrev pub drafted_all : ℕ → Draft → List Command → Option Draft
drafted_all n draft [] = Some draft
drafted_all n draft (command ∷ script) = option_and_then (λ next. drafted_all n next script) (drafted n draft command)

-- what every draft for n loops keeps: n rows and n columns; after k skews the entries of both are at most 9^k in size,
-- since a factor is at most 8; at most n rows lead; sizes from 1 to 65,536
pub record IsDraft (n : ℕ) (rows columns : List (List ℤ)) (seq : ℕ) (sizes : List ℕ) (skews : ℕ) : Type 0 where
  pub many : length rows ≡ n
  pub many_columns : length columns ≡ n
  pub small : All (AllWithinSize (9 ^ skews)) rows
  pub small_columns : All (AllWithinSize (9 ^ skews)) columns
  pub few : skews ≤ 6
  pub leads : seq ≤ n
  pub some : All (λ (size : ℕ). 0 < size) sizes
  pub limit : All (λ (size : ℕ). size ≤ 65536) sizes
