-- What refusals and dependences name.
use Rattle.std.specs.Prelude.{◌≡◌, ◌≢◌, ◌≤◌, ◌<◌, ◌+◌, ℤ, Some, List}
use Rattle.std.specs.List.{All}
use Rattle.fourier_motzkin.specs.declared.verdicts.Ruling.TheVariants.{Empty}
use Rattle.domain.specs.Tables.{Table, depth}
use Rattle.transform.specs.Schedules.{Schedule}
use Rattle.dependence.specs.Systems.{IsRef}
use Rattle.legality.specs.declared.listing.Dependence.{Dependence}
use Rattle.legality.specs.declared.refusals.Refusal.{Refusal}
use Rattle.legality.specs.Choices.{choice}
use Rattle.legality.specs.Dependences.{dependences}
use Rattle.legality.specs.Judgements.{refused}

-- a refusal by two accesses of the table, at a place of the padded points, of a row of the schedule
pub record IsRefusal (t : Table) (r : Refusal) : Type 0 where
  pub first : IsRef t r.first
  pub second : IsRef t r.second
  pub case_from : 1 ≤ r.case
  pub case_to : r.case ≤ depth t
  pub row_from : 1 ≤ r.row
  pub row_to : r.row ≤ depth t
  pub verdict : r.verdict ≢ Empty

-- a dependence between two accesses of the table, at a place of the padded points, or after the last one where the first
-- block has the smaller rank
pub record IsDependence (t : Table) (d : Dependence) : Type 0 where
  pub first : IsRef t d.first
  pub second : IsRef t d.second
  pub from : 1 ≤ d.case
  pub to : d.case ≤ depth t + 1
  pub last : depth t < d.case → d.first.block < d.second.block
  pub verdict : d.verdict ≢ Empty

-- of one schedule, of each one that is chosen from, and of all that may be met
abbrev pub RefusalsName : Type 0
RefusalsName = (t : Table) (L : ℤ) (s : Schedule) (r : Refusal) → refused t L s ≡ Some r → IsRefusal t r

abbrev pub ChoicesName : Type 0
ChoicesName = (t : Table) (L : ℤ) (ss : List Schedule) → All (IsRefusal t) (choice t L ss).refusals

abbrev pub DependencesName : Type 0
DependencesName = (t : Table) (L : ℤ) → All (IsDependence t) (dependences t L)
