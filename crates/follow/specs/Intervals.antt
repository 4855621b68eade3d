-- Intervals: what is expected of the addresses of one instance, as the code has it.
use Rattle.std.specs.Prelude.{ℕ, Option, Some, None, true}
use Rattle.nest_lang.specs.Lookups.{Expectation}
use Rattle.nest_lang.specs.Lookups as lookups
use Rattle.follow.specs.declared.verify.Interval.{Interval}

abbrev pub interval_by : Option Interval → Option lookups.Interval
interval_by None = None
interval_by (Some i) = Some (record { line = i.line; low = i.low; high = i.high })

-- the interval of each access, by number, where there is one
abbrev pub Intervals : Type 0
Intervals = ℕ → Option lookups.Interval

-- addresses that are verified against these intervals
abbrev pub verified_by : Intervals → Expectation
verified_by intervals = record { verifies = true; loads = intervals; stores = intervals }
