-- Turnings: what heads yield, as the code says it.
use Rattle.std.specs.Prelude.{◌≡◌, ℕ, pos, nat_le, Bool, true, false, Option, Some, None, if◌then◌else◌}
use Rattle.nest_lang.specs.declared.tree.Head.{Head}
use Rattle.nest_lang.specs.declared.tree.Head.TheVariants.{For, While}
use Rattle.nest_lang.specs.Values.{same}
use Rattle.nest_lang.specs.Traces.{Occurrence}
use Rattle.nest_lang.specs.Heads.{Yield}
use Rattle.nest_lang.specs.Heads as heads
use Rattle.follow.specs.declared.how.How.{How}
use Rattle.follow.specs.declared.how.How.TheVariants as how
use Rattle.follow.specs.declared.how.Turning.{Turning}
use Rattle.follow.specs.declared.how.Turning.TheVariants as turning
use Rattle.follow.specs.Forecasts.{expects_turn, Forecast}
use Rattle.follow.specs.declared.how.Turns.{Turns}
use Rattle.follow.specs.declared.how.Turns.TheVariants as turns

-- what a head yields
abbrev pub yield_by : Turns → Yield
yield_by (turns.Bounds lower trip) = heads.Bounds lower trip
yield_by (turns.Holds holds) = heads.Tested holds

-- what is expected of a head, as the code has it: of a `for` its lower bound and its trip, of a `while` its condition
abbrev pub IsTurning : Forecast → Occurrence → Head → Turning → Type 0
IsTurning p at (For lower upper stride) expected = expected ≡ turning.Bounds (p.lower at) (p.trip at.block at.counters)
IsTurning p at (While condition) expected = expected ≡ turning.Holds (expects_turn p at)

abbrev pub condition_differs : ℕ → Bool → Bool → Option How
condition_differs level true true = None
condition_differs level false false = None
condition_differs level true false = Some (if nat_le level 1 then how.Ended else how.Condition true false)
condition_differs level false true = Some (if nat_le level 1 then how.Ended else how.Condition false true)

-- how what a head at that level yields differs first from what is expected of it
abbrev pub turns_differ : ℕ → Turning → Turns → Option How
turns_differ level (turning.Bounds lower trip) (turns.Bounds from count) =
    if same from lower then (if same (pos count) trip then None else Some (how.Trip trip count)) else Some (how.Lower lower from)
turns_differ level (turning.Holds expected) (turns.Holds holds) = condition_differs level expected holds
turns_differ level (turning.Bounds lower trip) (turns.Holds holds) = None
turns_differ level (turning.Holds expected) (turns.Bounds from count) = None
