-- Sites: where an instance runs.
use Rattle.std.specs.Prelude.{ℕ, take}
use Rattle.nest_lang.specs.Lookups.{Expectation}
use Rattle.nest_lang.specs.Expressions.{Frame}
use Rattle.nest_lang.specs.Loops.{Around}
use Rattle.block_exec.specs.declared.site.Site.{Site}
use Rattle.block_exec.specs.declared.site.Places.{Places}

-- the frame of an instance: its block and turn numbers, the values of the loops' names, and what is
-- expected of its addresses
abbrev pub frame_at : Site → Expectation → Frame
frame_at site expects = record { at = record { block = site.block; counters = site.counters.now }; values = site.values.now; expects = expects }

-- the outermost so many loops of those that have a place
abbrev pub around_at : ℕ → Places → Around
around_at depth places = record { counters = take depth places.counters; values = take depth places.values }
