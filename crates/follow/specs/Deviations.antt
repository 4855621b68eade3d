-- Deviations: the first thing in a chunk's run that is not as it is expected.
use Rattle.std.specs.Prelude.{◌≡◌, ◌⊎◌, List, ◌∷◌, ◌++◌, true, false}
use Rattle.nest_lang.specs.Traces.{Observation, Halt, Done, Halted, Limited}
use Rattle.follow.specs.Forecasts.{agrees, all_agree, Forecast}
use Rattle.follow.specs.ChunkRuns.{ChunkRun}

-- an observation that doesn't agree, an access without an expected interval among them; a halt, which is a trap; or
-- a step that is due where none is left
pub data Deviation : Type 0 where
  Differs : (seen : Observation) → Deviation
  Halts : (halt : Halt) → Deviation
  Limit : Deviation

-- the observation is the first that doesn't agree
pub record IsFirst (p : Forecast) (observations : List Observation) (seen : Observation) : Type 0 where
  pub before : List Observation
  pub after : List Observation
  pub are : observations ≡ before ++ seen ∷ after
  pub agree : all_agree p before ≡ true
  pub differs : agrees p seen ≡ false

-- the first of these in a chunk's run: what ends the run comes after all that is observed
abbrev pub IsDeviation : Forecast → ChunkRun → Deviation → Type 0
IsDeviation p run (Differs seen) = IsFirst p run.observations seen
IsDeviation p run (Halts halt) = (all_agree p run.observations ≡ true) × (run.finish ≡ Halted halt)
IsDeviation p run Limit = (all_agree p run.observations ≡ true) × (run.finish ≡ Limited)

-- the chunk follows its prediction: all that is observed agrees, and all its turns are done
abbrev pub FollowsPrediction : Forecast → ChunkRun → Type 0
FollowsPrediction p run = (all_agree p run.observations ≡ true) × (run.finish ≡ Done)

-- a run has at most one deviation
abbrev pub DeviationIsOne : Type 0
DeviationIsOne = (p : Forecast) (run : ChunkRun) (d e : Deviation) → IsDeviation p run d → IsDeviation p run e → d ≡ e

-- a run has one, or the chunk follows its prediction
abbrev pub DeviatesOrFollows : Type 0
DeviatesOrFollows = (p : Forecast) (run : ChunkRun) → ((d : Deviation) × IsDeviation p run d) ⊎ FollowsPrediction p run

-- and not both
abbrev pub NotBoth : Type 0
NotBoth = (p : Forecast) (run : ChunkRun) (d : Deviation) → IsDeviation p run d → FollowsPrediction p run → ⊥
