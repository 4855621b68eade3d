-- The laws of schedules, each in one statement.
use Rattle.std.specs.Prelude.{◌≡◌, ◌≤◌, ℕ, ℤ, List, length, IsSome, Some}
use Rattle.std.specs.Ordering.{int_cmp, ordering_then}
use Rattle.std.specs.Cmp.Lexicographic.{slice_cmp}
use Rattle.nest_lang.specs.declared.command.Command.{Command}
use Rattle.affine.specs.Matrices.{ComesFrom}
use Rattle.transform.specs.Schedules.{IsSchedule, Schedule, matrix, phase, place, wave, wide_lead}
use Rattle.transform.specs.Scripts.{schedule_of}
use Rattle.transform.specs.Standards.{standard, standard_scripts}

-- what a script that keeps the rules makes is a schedule: its matrix maps whole-number points one to one and onto,
-- with entries of at most 2^20 in size
abbrev pub ScriptsMakeSchedules : Type 0
ScriptsMakeSchedules = (n : ℕ) (script : List Command) (s : Schedule) → schedule_of n script ≡ Some s → IsSchedule n s

-- each script of the table keeps the rules, for 1 to 6 loops
abbrev pub StandardsAreSchedules : Type 0
StandardsAreSchedules = (n number : ℕ) → 1 ≤ n → n ≤ 6 → 1 ≤ number → number ≤ length (standard_scripts n) → IsSome (standard n number)

-- equal places come from equal points
abbrev pub PlacesTellPoints : Type 0
PlacesTellPoints =
    (n : ℕ) (s : Schedule) (first second : List ℤ) → IsSchedule n s → length first ≡ n → length second ≡ n
    → place s first ≡ place s second → first ≡ second

-- each place is that of a point
abbrev pub PlacesComeFromPoints : Type 0
PlacesComeFromPoints = (n : ℕ) (s : Schedule) (numbers : List ℤ) → IsSchedule n s → length numbers ≡ n → ComesFrom n (matrix s) numbers

-- to compare the leading numbers with their zeros, and then the wave, is to compare the phase keys as lists
abbrev pub KeysCompareAsLists : Type 0
KeysCompareAsLists =
    (n : ℕ) (s : Schedule) (first second : List ℤ) → IsSchedule n s
    → ordering_then (slice_cmp int_cmp (wide_lead s first) (wide_lead s second)) (int_cmp (wave s first) (wave s second))
    ≡ slice_cmp int_cmp (phase s first) (phase s second)
