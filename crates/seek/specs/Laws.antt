-- What holds of schedule lists, and of what is sought in them.
use Rattle.std.specs.Prelude.{◌≡◌, ℕ, ◌+◌, ◌-◌, ◌≤◌, ◌<◌, ℤ, List, length, slice_get, Some, None}
use Rattle.nest_lang.specs.declared.command.Command.{Command}
use Rattle.domain.specs.Tables.{Table}
use Rattle.transform.specs.Schedules.{Schedule}
use Rattle.transform.specs.Scripts.{schedule_of}
use Rattle.dependence.specs.Legality.{Legal}
use Rattle.legality.specs.declared.refusals.Refusal.{Refusal}
use Rattle.legality.specs.Choices.{Choice, choice}
use Rattle.seek.specs.ScheduleLists.{count, listed, schedule_at, schedules}
use Rattle.seek.specs.Confirmations.{Refutes}

-- each script of a list keeps the rules: it has a schedule
abbrev pub ListedAreSchedules : Type 0
ListedAreSchedules = (n number : ℕ) (script : List Command) → listed n number ≡ Some script → schedule_of n script ≡ Some (schedule_at n (number - 1))

-- of the numbers below the end, from 1, none is legal
abbrev pub NoneLegalBelow : ℕ → Table → ℤ → ℕ → Type 0
NoneLegalBelow n t L end = (number : ℕ) → 1 ≤ number → number < end → Legal t (schedule_at n (number - 1)) L → ⊥

-- the least legal number
pub record IsLeastLegal (n : ℕ) (t : Table) (L : ℤ) (number : ℕ) : Type 0 where
  pub from : 1 ≤ number
  pub to : number ≤ count n
  pub legal : Legal t (schedule_at n (number - 1)) L
  pub least : NoneLegalBelow n t L number

-- each number of the list has its refusal, from the first on
pub record AreRefused (n : ℕ) (t : Table) (L : ℤ) (numbers : ℕ) (refusals : List Refusal) : Type 0 where
  pub many : length refusals ≡ numbers
  pub each : (number : ℕ) (r : Refusal) → 1 ≤ number → slice_get refusals (number - 1) ≡ Some r → Refutes t L (schedule_at n (number - 1)) r

-- what is found is the least legal number, with a refusal of every number before it; nothing is found where none is legal,
-- and every number has a refusal
pub record IsSought (n : ℕ) (t : Table) (L : ℤ) (c : Choice) : Type 0 where
  pub some : (number : ℕ) → c.legal ≡ Some number → IsLeastLegal n t L number
  pub before : (number : ℕ) → c.legal ≡ Some number → AreRefused n t L (number - 1) c.refusals
  pub none : c.legal ≡ None → NoneLegalBelow n t L (count n + 1)
  pub all : c.legal ≡ None → AreRefused n t L (count n) c.refusals

abbrev pub FirstIsFound : Type 0
FirstIsFound = (n : ℕ) (t : Table) (L : ℤ) → IsSought n t L (choice t L (schedules n))

-- a schedule that a refusal refutes isn't legal
abbrev pub RefutedIsIllegal : Type 0
RefutedIsIllegal = (t : Table) (L : ℤ) (s : Schedule) (r : Refusal) → Refutes t L s r → Legal t s L → ⊥
