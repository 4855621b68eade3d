-- When a refusal holds of a schedule.
use Rattle.std.specs.Prelude.{◌≡◌, ◌≢◌, ◌≤◌, ℕ, ℤ, true, ⊤}
use Rattle.plain_lemmas.specs.Lists.{Has}
use Rattle.fourier_motzkin.specs.declared.verdicts.Ruling.{Ruling}
use Rattle.fourier_motzkin.specs.declared.verdicts.Ruling.TheVariants.{Empty}
use Rattle.domain.specs.Tables.{Table}
use Rattle.dependence.specs.declared.violations.Side.{Side}
use Rattle.dependence.specs.declared.violations.Side.TheVariants.{Below, Above}
use Rattle.dependence.specs.Systems.{IsRef}
use Rattle.transform.specs.Schedules.{Schedule}
use Rattle.dependence.specs.Sides.{is_above}
use Rattle.dependence.specs.Legality.{Trial, Violated, trials}
use Rattle.legality.specs.declared.refusals.Refusal.{Refusal}
use Rattle.legality.specs.Judgements.{climbs, told}

-- it tells of one of the trials of the schedule, for chunks of at most L turns: its system and its violated row, with the
-- verdict on it, which isn't Empty
pub record Refutes (t : Table) (L : ℤ) (s : Schedule) (r : Refusal) : Type 0 where
  pub trial : Trial
  pub is : Has (trials t s L) trial
  pub told : told t s trial ≡ r
  pub refuses : r.verdict ≢ Empty

-- a row can be violated so: below, or above where it is a parallel row of the band
abbrev pub CanBe : Schedule → ℕ → Side → Type 0
CanBe s row Below = ⊤
CanBe s row Above = climbs s row ≡ true

-- a refusal names accesses of the table, a place of the padded points of n loops, and a violation of the schedule
pub record IsPlaced (n : ℕ) (t : Table) (s : Schedule) (r : Refusal) : Type 0 where
  pub first : IsRef t r.first
  pub second : IsRef t r.second
  pub case_from : 1 ≤ r.case
  pub case_to : r.case ≤ n
  pub row_from : 1 ≤ r.row
  pub row_to : r.row ≤ n
  pub side : CanBe s r.row r.side

-- the violated row that a refusal names
abbrev pub violated_by : Refusal → Violated
violated_by r = record { row = r.row; above = is_above r.side }

-- a verdict is the one found, and isn't Empty
pub record IsRefusing (verdict : Ruling) (found : Ruling) : Type 0 where
  pub same : found ≡ verdict
  pub other : verdict ≢ Empty
