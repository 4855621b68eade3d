-- Differences: how what is shown of an instance differs from what is predicted of it.
use Rattle.std.specs.Prelude.{ℕ, suc, ℤ, pos, unsigned_abs, nat_le, not, Bool, List, [], ◌∷◌, get_or, Option, Some, None, if◌then◌else◌}
use Rattle.nest_lang.specs.Values.{same}
use Rattle.nest_lang.specs.Heads.{as_number}
use Rattle.nest_lang.specs.Lookups.{lies_in, line_of}
use Rattle.nest_lang.specs.Traces.{Observation}
use Rattle.domain.specs.Tables.{Table}
use Rattle.domain.specs.Instances.{Instance}
use Rattle.follow.specs.declared.how.How.{How}
use Rattle.follow.specs.declared.how.How.TheVariants as how
use Rattle.follow.specs.Forecasts.{agrees}
use Rattle.follow.specs.Hows.{how_refused, how_seen}
use Rattle.follow_chunk.specs.Predicted.{scalars_at, interval_at, lower_at, forecast_of}
use Rattle.compare.specs.Kept.{kept_i64, kept_u64, kept}

-- how an observation differs, where it doesn't agree
abbrev pub difference : Table → Observation → Option How
difference t o = if agrees (forecast_of t) o then None else Some (how_seen (forecast_of t) (kept o))

-- the same by its kind, at an instance
abbrev pub scalar_difference : Table → Instance → ℕ → ℤ → Option How
scalar_difference t x number v = if same v (get_or (scalars_at t x) number (pos 0)) then None else Some (how.Scalar number (get_or (scalars_at t x) number (pos 0)) (kept_i64 v))

abbrev pub address_difference : Table → Instance → ℕ → ℤ → Option How
address_difference t x access v = if lies_in (interval_at t x access) v then None else Some (how_refused access (kept_i64 v) (line_of (interval_at t x access)))

abbrev pub lower_difference : Table → Instance → ℤ → Option How
lower_difference t x v = if same v (lower_at t x) then None else Some (how.Lower (lower_at t x) (kept_i64 v))

abbrev pub trip_difference : ℤ → ℤ → Option How
trip_difference trip v = if same v trip then None else Some (how.Trip trip (unsigned_abs (kept_u64 v)))

abbrev pub condition_difference : ℕ → Bool → ℤ → Option How
condition_difference level expected v =
    if same v (as_number expected) then None else Some (if nat_le level 1 then how.Ended else how.Condition expected (not (same v (pos 0))))

abbrev pub first_difference : Option How → Option How → Option How
first_difference None second = second
first_difference (Some first) second = Some first

-- of the scalars from a number on, the first difference
abbrev pub scalars_difference : Table → Instance → ℕ → List ℤ → Option How
scalars_difference t x number [] = None
scalars_difference t x number (v ∷ vs) = first_difference (scalar_difference t x number v) (scalars_difference t x (suc number) vs)
