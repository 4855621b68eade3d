-- Hows: how something that was seen differs from what is expected.
use Rattle.std.specs.Prelude.{ℕ, suc, ℤ, pos, unsigned_abs, nat_le, not, List, [], ◌∷◌, get_or, Option, Some, None, if◌then◌else◌}
use Rattle.nest_lang.specs.declared.observe.Seen.{Seen}
use Rattle.nest_lang.specs.declared.observe.Seen.TheVariants as see
use Rattle.nest_lang.specs.Values.{same}
use Rattle.nest_lang.specs.Lookups.{line_of}
use Rattle.nest_lang.specs.Traces.{Occurrence, Observation, Halt, Trapped, Stopped, Over, Finish, Done, Halted, Limited}
use Rattle.follow.specs.declared.how.How.{How}
use Rattle.follow.specs.declared.how.How.TheVariants as how
use Rattle.follow.specs.Forecasts.{expects_turn, Forecast}
use Rattle.follow.specs.Deviations.{Deviation, Differs, Halts, Limit}

-- an address that is not expected, with the line of what is
abbrev pub how_refused : ℕ → ℤ → Option ℤ → How
how_refused access seen None = how.Unseen access seen
how_refused access seen (Some line) = how.Address access line seen

-- the condition of an outermost loop is expected to hold
abbrev pub how_turning : Forecast → Occurrence → ℤ → How
how_turning p i v = if nat_le i.block.level 1 then how.Ended else how.Condition (expects_turn p i) (not (same v (pos 0)))

-- how an observation differs: its kind, with the expected value, for an address the line, and the seen one
abbrev pub how_by : Forecast → Occurrence → Seen → ℤ → How
how_by p i see.Start v = how.Limit
how_by p i (see.Scalar number) v = how.Scalar number (get_or (p.scalars i) number (pos 0)) v
how_by p i (see.Address access) v = how_refused access v (line_of (p.interval i access))
how_by p i see.Lower v = how.Lower (p.lower i) v
how_by p i see.Trip v = how.Trip (p.trip i.block i.counters) (unsigned_abs v)
how_by p i see.Condition v = how_turning p i v

abbrev pub how_seen : Forecast → Observation → How
how_seen p o = how_by p o.at o.what o.value

-- how a halt differs from going on
abbrev pub how_halted : Halt → How
how_halted (Trapped trap) = how.Trap trap
how_halted (Stopped access seen line) = how_refused access seen line
how_halted Over = how.Ended

-- a deviation, as the code says it
abbrev pub how_of : Forecast → Deviation → How
how_of p (Differs seen) = how_seen p seen
how_of p (Halts halt) = how_halted halt
how_of p Limit = how.Limit

-- how a run that finishes so differs from one that is done
abbrev pub how_of_finish : Finish → How
how_of_finish Done = how.Limit
how_of_finish (Halted halt) = how_halted halt
how_of_finish Limited = how.Limit

-- the first of these scalars, from a number on, that is not the expected one
abbrev pub scalars_differ : List ℤ → ℕ → List ℤ → Option How
scalars_differ expected number [] = None
scalars_differ expected number (v ∷ vs) =
    if same v (get_or expected number (pos 0)) then scalars_differ expected (suc number) vs else Some (how.Scalar number (get_or expected number (pos 0)) v)
