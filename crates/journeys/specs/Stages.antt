-- Stages: what a run does next, and where that leads.
use Rattle.std.specs.Prelude.{◌≡◌, ◌-◌, ℕ, pos, List, [], ◌∷◌, ◌++◌, length, slice_get, Some, None, true, false}
use Rattle.nest_lang.specs.Traces.{Observation, Finish, Done}
use Rattle.nest_lang.specs.TurnLaws.{over_is_done}
use Rattle.transform.specs.Schedules.{Schedule}
use Rattle.domain.specs.Tables.{Table}
use Rattle.domain.specs.Instances.{Instance}
use Rattle.domain.specs.declared.held.HeldWhy.{HeldWhy}
use Rattle.domain.specs.Launches.{IsLaunched, IsHeld}
use Rattle.follow.specs.declared.how.How.{How}
use Rattle.follow.specs.ChunkRuns.{ChunkRun}
use Rattle.profile.specs.declared.unfit.Unfit.{Unfit}
use Rattle.profile.specs.Fits.{IsFitOf, IsUnfitAt}
use Rattle.profile.specs.FirstProfiles.{has_turn}
use Rattle.legality.specs.Choices.{choice}
use Rattle.compare.specs.ChainLaw.{run_of_chunk}
use Rattle.compare.specs.Compared.{IsDeviationOf}
use Rattle.chunk_run.specs.ChunkEnds.{HasNumbers}
use Rattle.report.specs.declared.line.Line.{Line}
use Rattle.journeys.specs.Settings.{Setting, Moment, Ran, next_turns, observed, profile_turns, chunk_turns, next_chunk, turns_within, words_at}
use Rattle.journeys.specs.Tellings.{profile_line, unfit_line, illegal_lines, held_line, rollback_line, commit_line, plain_line}

-- what comes next: a profile; chunks by a prediction, in the order of the candidate of that number; so many turns in
-- original order; or nothing, and the run has finished so
pub data Stage : Type 0 where
  Profiles : Stage
  Chunks : (t : Table) (number : ℕ) → Stage
  Plainly : (turns : ℕ) → Stage
  Over : (finish : Finish) → Stage

-- ---- a profile

-- what observations lead to
pub data AreJudged (g : Setting) (observations : List Observation) : List Line → Stage → Type 0 where
  -- Where the profile is unfit, its first unfit datum is told, and a plain chunk follows.
  unfit : (u : Unfit (length g.loops)) → IsUnfitAt (length g.loops) g.scalars g.loops observations u
      → AreJudged g observations (unfit_line g.loops u ∷ []) (Plainly g.chunk)
  -- The candidates are judged in order, and each refused one is told. Where none is legal, a plain chunk follows; else chunks
  -- follow by the first legal one.
  none_legal : (t : Table) → IsFitOf (length g.loops) g.scalars g.loops observations t → (choice t (pos g.chunk) g.candidates).legal ≡ None
      → AreJudged g observations (illegal_lines g.loops 1 (choice t (pos g.chunk) g.candidates).refusals) (Plainly g.chunk)
  chosen : (t : Table) (number : ℕ) → IsFitOf (length g.loops) g.scalars g.loops observations t → (choice t (pos g.chunk) g.candidates).legal ≡ Some number
      → AreJudged g observations (illegal_lines g.loops 1 (choice t (pos g.chunk) g.candidates).refusals) (Chunks t number)

-- where a profile leads
pub data ProfileLeads (g : Setting) (m : Moment) : List Line → Stage → Moment → Type 0 where
  -- Where it ended, trapped or was limited, so did the run.
  stopped : (done : ℕ) (finish : Finish) (after : Moment) → Ran g m (profile_turns g m) done finish after → (finish ≡ Done → ⊥)
      → ProfileLeads g m (profile_line m done ∷ []) (Over (over_is_done finish)) after
  -- Where a `for` has no turn left after it, the run has ended, and nothing is fitted.
  used_up : (after : Moment) → Ran g m (profile_turns g m) (profile_turns g m) Done after → has_turn after.outer.left ≡ false
      → ProfileLeads g m (profile_line m (profile_turns g m) ∷ []) (Over Done) after
  -- Else what was observed is judged.
  profiled : (after : Moment) (lines : List Line) (stage : Stage) → Ran g m (profile_turns g m) (profile_turns g m) Done after → has_turn after.outer.left ≡ true
      → AreJudged g (observed g m (profile_turns g m)) lines stage
      → ProfileLeads g m (profile_line m (profile_turns g m) ∷ lines) stage after

-- ---- a chunk

-- the run of the next chunk, whose instances are predicted by a table
abbrev pub chunk_run_from : Table → Setting → Moment → ChunkRun
chunk_run_from t g m = run_of_chunk t (next_chunk g m) (next_turns g m (chunk_turns g m)) m.store m.left

-- it deviates first at an instance, and so
abbrev pub DeviatesAt : Table → Setting → Moment → Instance → How → Type 0
DeviatesAt t g m at how = IsDeviationOf {D = length g.loops} t (next_chunk g m) (chunk_run_from t g m) (Some (record { at = at; how = how }))

-- it follows its prediction
abbrev pub FollowsIt : Table → Setting → Moment → Type 0
FollowsIt t g m = IsDeviationOf {D = length g.loops} t (next_chunk g m) (chunk_run_from t g m) None

-- where the next chunk leads, which is run by the candidate of that number
pub data ChunkLeads (t : Table) (number : ℕ) (g : Setting) (m : Moment) : List Line → Stage → Moment → Type 0 where
  -- It is held where it isn't launched: its turns are a plain chunk.
  held : (at : Instance) (why : HeldWhy) → IsHeld t (words_at m) (next_chunk g m) at why
      → ChunkLeads t number g m (held_line g m at why ∷ []) (Plainly (chunk_turns g m)) m
  -- Where it is launched and deviates, it is rolled back: its turns are a plain chunk.
  rolled_back : (s : Schedule) (instances : ℕ) (at : Instance) (how : How) → slice_get g.candidates (number - 1) ≡ Some s → IsLaunched t (words_at m) (next_chunk g m) instances → DeviatesAt t g m at how
      → ChunkLeads t number g m (rollback_line g m at how ∷ []) (Plainly (chunk_turns g m)) m
  -- Where it is launched and follows its prediction, it is committed, and the next chunk follows.
  committed : (s : Schedule) (instances phases tiles : ℕ) (after : Moment) → slice_get g.candidates (number - 1) ≡ Some s → HasNumbers (record { table = t; schedule = s; chunk = next_chunk g m }) (words_at m) instances phases tiles → FollowsIt t g m
      → Ran g m (chunk_turns g m) (chunk_turns g m) Done after
      → ChunkLeads t number g m (commit_line g m after number instances phases tiles ∷ []) (Chunks t number) after

-- ---- turns in original order

-- where so many turns lead, or what is left of a `for`
pub data PlainLeads (turns : ℕ) (g : Setting) (m : Moment) : List Line → Stage → Moment → Type 0 where
  -- Where they ended, trapped or were limited, so did the run.
  stopped : (done : ℕ) (finish : Finish) (after : Moment) → Ran g m (turns_within m.outer.left turns) done finish after → (finish ≡ Done → ⊥)
      → PlainLeads turns g m (plain_line m done ∷ []) (Over (over_is_done finish)) after
  -- Else a profile follows.
  gone_on : (after : Moment) → Ran g m (turns_within m.outer.left turns) (turns_within m.outer.left turns) Done after
      → PlainLeads turns g m (plain_line m (turns_within m.outer.left turns) ∷ []) Profiles after

-- ---- any stage

-- where a stage leads from a moment, and what is told
pub data Leads (g : Setting) : Stage → Moment → List Line → Stage → Moment → Type 0 where
  -- Where a `for` has no turn left, the run has ended, and neither a profile nor a chunk follows.
  no_profile : (m : Moment) → has_turn m.outer.left ≡ false → Leads g Profiles m [] (Over Done) m
  no_chunk : (t : Table) (number : ℕ) (m : Moment) → has_turn m.outer.left ≡ false → Leads g (Chunks t number) m [] (Over Done) m
  profile : (m after : Moment) (lines : List Line) (stage : Stage) → has_turn m.outer.left ≡ true → ProfileLeads g m lines stage after
      → Leads g Profiles m lines stage after
  chunk : (t : Table) (number : ℕ) (m after : Moment) (lines : List Line) (stage : Stage) → has_turn m.outer.left ≡ true → ChunkLeads t number g m lines stage after
      → Leads g (Chunks t number) m lines stage after
  plainly : (turns : ℕ) (m after : Moment) (lines : List Line) (stage : Stage) → PlainLeads turns g m lines stage after
      → Leads g (Plainly turns) m lines stage after

-- what some stages tell, one after another, from one stage and moment to another
pub data Reaches (g : Setting) (from : Stage) (start : Moment) : List Line → Stage → Moment → Type 0 where
  begun : Reaches g from start [] from start
  then : (lines more : List Line) (stage next : Stage) (m after : Moment) → Reaches g from start lines stage m → Leads g stage m more next after
      → Reaches g from start (lines ++ more) next after
