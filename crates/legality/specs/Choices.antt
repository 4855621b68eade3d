-- The first legal one of some schedules.
use Rattle.std.specs.Prelude.{ℕ, suc, ℤ, Bool, Option, is_none, option_map, unwrap_or, List, length, take}
use Rattle.std.specs.List.{filter_map, position}
use Rattle.domain.specs.Tables.{Table}
use Rattle.transform.specs.Schedules.{Schedule}
use Rattle.legality.specs.declared.refusals.Refusal.{Refusal}
use Rattle.legality.specs.Judgements.{refused}

-- the refusals of the schedules before the first legal one, and the number of that one, from 1
pub record Choice : Type 0 where
  pub refusals : List Refusal
  pub legal : Option ℕ

abbrev pub is_legal : Table → ℤ → Schedule → Bool
is_legal t L s = is_none (refused t L s)

-- the place of the first legal one
abbrev pub first_legal : Table → ℤ → List Schedule → Option ℕ
first_legal t L ss = position (is_legal t L) ss

-- where none is legal, each has its refusal
abbrev pub choice : Table → ℤ → List Schedule → Choice
choice t L ss = record {
  refusals = filter_map (refused t L) (take (unwrap_or (first_legal t L ss) (length ss)) ss);
  legal = option_map suc (first_legal t L ss);
}
