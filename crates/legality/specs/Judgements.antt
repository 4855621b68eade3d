-- What is answered of a schedule.
use Rattle.std.specs.Prelude.{ℕ, ◌-◌, ℤ, not, ◌&&◌, nat_lt, Bool, Option, Some, None, List, option_map}
use Rattle.std.specs.List.{find}
use Rattle.domain.specs.Tables.{Table}
use Rattle.transform.specs.Schedules.{Schedule, line_at}
use Rattle.dependence.specs.Sides.{side_of}
use Rattle.dependence.specs.Legality.{Trial, is_empty, judgement, trials}
use Rattle.legality.specs.declared.refusals.Refusal.{Refusal}
use Rattle.legality.specs.declared.refusals.Judged.{Judged}
use Rattle.legality.specs.declared.refusals.Judged.TheVariants.{Legal, Refused}

-- what is told of a trial that refuses
abbrev pub told : Table → Schedule → Trial → Refusal
told t s v = record {
  first = v.system.first;
  second = v.system.second;
  case = v.system.case;
  row = v.violated.row;
  side = side_of v.violated.above;
  verdict = judgement t s v;
}

-- a trial refuses where its verdict isn't Empty
abbrev pub refuses : Table → Schedule → Trial → Bool
refuses t s v = not (is_empty (judgement t s v))

-- the first of some trials that refuses
abbrev pub first_refusal : Table → Schedule → List Trial → Option Refusal
first_refusal t s vs = option_map (told t s) (find (refuses t s) vs)

-- the first of all
abbrev pub refused : Table → ℤ → Schedule → Option Refusal
refused t L s = first_refusal t s (trials t s L)

abbrev pub judged_by : Option Refusal → Judged
judged_by None = Legal
judged_by (Some refusal) = Refused refusal

-- a schedule is legal where none refuses
abbrev pub judged : Table → Schedule → ℤ → Judged
judged t s L = judged_by (refused t L s)

-- a row, from 1, is a parallel row of the band
abbrev pub climbs : Schedule → ℕ → Bool
climbs s row = nat_lt s.seq row && (line_at s (row - 1)).parallel
