-- What is kept of a run of i64s is what it shows.
use Rattle.std.specs.Prelude.{◌≡◌, ◌<◌, ◌≤◌, ◌+◌, ◌^◌, ℕ, pos, List, true}
use Rattle.std.specs.List.{All}
use Rattle.nest_lang.specs.declared.tree.Loop.{Loop}
use Rattle.nest_lang.specs.declared.state.Outer.{Outer}
use Rattle.nest_lang.specs.Stores.{Store}
use Rattle.nest_lang.specs.Lookups.{plain}
use Rattle.nest_lang.specs.Rules.{loops_keep}
use Rattle.nest_lang.specs.Turns.{IsPositionIn, turns_trace}
use Rattle.domain.specs.declared.chunk.Chunk.{Chunk}
use Rattle.domain.specs.Tables.{Table}
use Rattle.follow.specs.ChunkRuns.{ChunkRun}
use Rattle.follow.specs.Deviations.{Deviation, IsDeviation}
use Rattle.follow.specs.Forecasts.{Forecast}
use Rattle.profile.specs.Reach.{HasI64s, HasValue, IsOfI64s}
use Rattle.compare.specs.ChainLaw.{run_of_chunk}
use Rattle.compare.specs.Kept.{kept_deviation}

-- a nest that keeps the rules and whose numbers are i64s is run from a store of i64s, at a position of its outermost loop;
-- the number of the next turn and the steps that are left are at most 2^33 together
pub record IsRunOfI64s (loops : List Loop) (o : Outer) (s : Store) (left : ℕ) : Type 0 where
  pub keeps : loops_keep loops ≡ true
  pub numbers : All HasI64s loops
  pub store : IsOfI64s s
  pub position : IsPositionIn loops o
  pub turn : ℕ
  pub next : o.next ≡ pos turn
  pub few : turn + left ≤ 2 ^ 33

-- each value that a chunk's run of i64s shows is one of its kind, those of its closing scalars among them
abbrev pub RunsShowValues : Type 0
RunsShowValues = (t : Table) (chunk : Chunk) (k c left : ℕ) (loops : List Loop) (o : Outer) (s : Store) → 0 < k → IsRunOfI64s loops o s left
    → All HasValue (run_of_chunk t chunk (turns_trace plain k loops o c s) s left).observations

-- and where each value is one of its kind, what is kept of the deviation is the deviation itself
abbrev pub KeptIsExact : Type 0
KeptIsExact = (p : Forecast) (run : ChunkRun) (e : Deviation) → All HasValue run.observations → IsDeviation p run e → kept_deviation e ≡ e
