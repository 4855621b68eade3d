-- Followed: the run of one instance against what is expected of it.
use Rattle.std.specs.Prelude.{◌≡◌, ℕ, ℤ, List, length, Some, Result, Ok, Err}
use Rattle.nest_lang.specs.Stores.{Store}
use Rattle.nest_lang.specs.Traces.{Occurrence, Trace}
use Rattle.block_exec.specs.declared.site.Site.{Site}
use Rattle.follow.specs.declared.how.How.{How}
use Rattle.follow.specs.Forecasts.{Forecast}
use Rattle.follow.specs.Intervals.{Intervals}
use Rattle.follow.specs.Reaches.{reach}
use Rattle.follow.specs.FollowRuns.{state_of, ended_with}
use Rattle.follow.specs.ChunkRuns.{chunk_run}
use Rattle.follow.specs.Deviations.{Deviation, IsDeviation, FollowsPrediction}
use Rattle.follow.specs.Hows.{how_of}

-- the occurrence at a site
abbrev pub occurrence_at : Site → Occurrence
occurrence_at site = record { block = site.block; counters = site.counters.now }

-- these scalars are expected as an instance begins, these intervals of its accesses, and those scalars of its
-- successor
pub record Foretold (p : Forecast) (at next : Occurrence) (scalars : List ℤ) (intervals : Intervals) (after : List ℤ) : Type 0 where
  pub begins : p.scalars at ≡ scalars
  pub addresses : (access : ℕ) → p.interval at access ≡ intervals access
  pub closes : p.scalars next ≡ after
  pub sizes : length after ≡ length scalars

-- the trace of an instance was followed from a store with so many steps left: in so many steps to these words, where
-- its run, with the scalars after it as those that its successor begins with, has no deviation; and else to its
-- deviation
abbrev pub IsFollowed : Forecast → Occurrence → Trace → Store → ℕ → Result ℕ How → List ℤ → Type 0
IsFollowed p next t s left (Ok steps) words =
    FollowsPrediction p (chunk_run next t s left) × (ended_with (p.scalars next) (state_of (reach p t s)) ≡ Some (record { memory = words; steps = steps }))
IsFollowed p next t s left (Err how) words = (d : Deviation) × IsDeviation p (chunk_run next t s left) d × (how ≡ how_of p d)
