-- Courses: what a nest is run with, and the stage that comes next.
use Rattle.std.specs.Prelude.{◌≡◌, ◌<◌, ◌≤◌, ◌+◌, ◌-◌, ◌*◌, ◌^◌, ℕ, pos, ◌≤ℤ◌, List, [], ◌∷◌, ◌++◌, length, slice_get, Some, true, Result, Ok, Err}
use Rattle.std.specs.List.{All}
use Rattle.nest_lang.specs.declared.tree.Nest.{Nest}
use Rattle.nest_lang.specs.declared.tree.Loop.{Loop}
use Rattle.nest_lang.specs.Blocks.{present_blocks}
use Rattle.profile.specs.Reach.{HasI64s, IsOfI64s}
use Rattle.profile.specs.declared.unfit.UnfitWhy.{UnfitWhy}
use Rattle.profile.specs.declared.unfit.UnfitWhy.TheVariants as why
use Rattle.nest_grammar.specs.declared.file.File.{File}
use Rattle.nest_grammar.specs.declared.file.NestUnit.{NestUnit}
use Rattle.report.specs.declared.journey.Options.{Options}
use Rattle.nest_lang.specs.Rules.{NestKeeps}
use Rattle.nest_lang.specs.Traces.{Observation, Finish, cut_of}
use Rattle.std.specs.declared.alloc.AllocError.{AllocError}
use Rattle.crew.specs.declared.handed.Handed.{Handed}
use Rattle.chunk_run.specs.declared.run.ChunkEnd.TheVariants.{Committed, RolledBack}
use Rattle.skeletons.specs.Cells.{Extent}
use Rattle.nest_lang.specs.Runs.{finish_of_ending}
use Rattle.transform.specs.Schedules.{Schedule}
use Rattle.domain.specs.declared.chunk.Chunk.{Chunk}
use Rattle.domain.specs.Tables.{Table, IsTable}
use Rattle.domain.specs.Shapes.{IsTableOf, LowersWithTrips}
use Rattle.dependence.specs.Legality.{Legal}
use Rattle.legality.specs.declared.refusals.Refusal.{Refusal}
use Rattle.profile.specs.FirstProfiles.{has_turn}
use Rattle.report.specs.declared.line.Line.{Line}
use Rattle.report.specs.declared.journey.Journey.{Journey}
use Rattle.journeys.specs.Settings.{Setting, Moment, setting_of}
use Rattle.journeys.specs.Stages as stages
use Rattle.journeys.specs.Stages.{AreJudged}
use Rattle.journeys.specs.HandedRecords.{Launched, Launching, IsHandedRecord, JourneyHands, BegunJourneyHands, NestHasLaunched, HaveLaunched, launched_in_nest, launched_in_nests}
use Rattle.nest_lang.specs.declared.budget.Ending.{Ending}
use Rattle.nest_lang.specs.declared.budget.Ending.TheVariants as ending
use Rattle.nest_lang.specs.declared.budget.Turned.{Turned}
use Rattle.nest_lang.specs.declared.budget.Turned.TheVariants as turned
use Rattle.controller.specs.declared.stage.Stage.{Stage}
use Rattle.controller.specs.declared.stage.Stage.TheVariants.{Profiles, Chunks, Plainly, Over}
use Rattle.journeys.specs.Journeys.{IsNestJourney, IsJourneyOf}
use Rattle.controller.specs.Machines.{IsPlaced, MachineState, HandsOver, reach_of}

-- a nest of D loops that keeps the rules, in a file of at most 16 scalars; fewer than 2^32 candidates; profiles of 2 to 64
-- turns, and chunks of 1 to 1,024
pub record IsSetting (D : ℕ) (g : Setting) : Type 0 where
  pub depth : length g.loops ≡ D
  pub few : D < 7
  pub keeps : NestKeeps g.scalars g.loops
  pub scalars : g.scalars ≤ 16
  pub candidates : length g.candidates < 2 ^ 32
  pub sample_from : 2 ≤ g.sample
  pub sample_to : g.sample ≤ 64
  pub chunk_from : 1 ≤ g.chunk
  pub chunk_to : g.chunk ≤ 1024

-- the stage that the code says comes next
abbrev pub stage_of : {D : ℕ} → Stage D → stages.Stage
stage_of Profiles = stages.Profiles
stage_of (Chunks chosen) = stages.Chunks chosen.pred chosen.number
stage_of (Plainly turns) = stages.Plainly turns
stage_of (Over ending) = stages.Over (finish_of_ending ending)

-- a prediction is one of the nest, and the candidate of that number is legal for its chunks
pub record IsChosen (g : Setting) (t : Table) (number : ℕ) : Type 0 where
  pub table : IsTableOf g.scalars g.loops t
  pub shape : IsTable (length g.loops) t
  pub lowers : LowersWithTrips t
  pub from : 1 ≤ number
  pub to : number ≤ length g.candidates
  pub legal : (s : Schedule) → slice_get g.candidates (number - 1) ≡ Some s → Legal t s (pos g.chunk)

-- a stage that may come next: chunks are by what was chosen, and there are turns to be run in original order
abbrev pub IsDue : {D : ℕ} → Setting → Stage D → Type 0
IsDue g Profiles = Unit {0}
IsDue g (Chunks chosen) = IsChosen g chosen.pred chosen.number
IsDue g (Plainly turns) = 1 ≤ turns
IsDue g (Over ending) = Unit {0}

-- where turns are to be run in original order, the loop has one
abbrev pub HasTurn : {D : ℕ} → Stage D → Moment → Type 0
HasTurn Profiles m = Unit {0}
HasTurn (Chunks chosen) m = Unit {0}
HasTurn (Plainly turns) m = has_turn m.outer.left ≡ true
HasTurn (Over ending) m = Unit {0}

-- how near a stage is to the end, among those at one moment: a held chunk leads to turns in original order without a turn
abbrev pub weight : {D : ℕ} → Stage D → ℕ
weight Profiles = 2
weight (Chunks chosen) = 2
weight (Plainly turns) = 1
weight (Over ending) = 0

-- how far a run is from its end: each turn takes a step, which outweighs every stage
abbrev pub rest_of : {D : ℕ} → Stage D → Moment → ℕ
rest_of stage m = 3 * m.left + weight stage

-- from a stage and a moment some stages lead to another, with these lines behind those before, and launch these chunks; the
-- end is nearer then
pub record Led {D : ℕ} (g : Setting) (from : Stage D) (m : Moment) (before : List Line) (to : Stage D) (after : Moment) (lines : List Line) (chunks : List Launched) : Type 0 where
  pub told : List Line
  pub are : lines ≡ before ++ told
  pub reaches : Launching g (stage_of from) m told (stage_of to) after chunks
  pub nearer : rest_of to after < rest_of from m
  pub due : IsDue g to
  pub turn : HasTurn to after
  pub placed : IsPlaced g after

-- one launched chunk: it was committed with these numbers, or rolled back
abbrev pub kept_on : Extent → ℕ → ℕ → ℕ → ℕ → List Launched
kept_on e instances phases tiles steps = record { extent = e; end = Committed instances phases tiles steps } ∷ []

abbrev pub given_up : Table → Schedule → Chunk → List Launched
given_up t s chunk = record { extent = record { table = t; schedule = s; chunk = chunk }; end = RolledBack } ∷ []

-- the same with what was handed to a crew for the chunks; no more than 65,536 phases were posted
pub record LedWith {D : ℕ} (g : Setting) (from : Stage D) (a : MachineState) (before : List Line) (old : List Handed) (to : Stage D) (b : MachineState) (lines : List Line) (new : List Handed) : Type 0 where
  pub chunks : List Launched
  pub led : Led g from a.moment before to b.moment lines chunks
  pub hands : HandsOver chunks a.posts b.posts old new
  pub few : b.posts.epoch ≤ a.posts.epoch + 65536

-- where memory was wanting, some stages had led on, and a crew's list had grown by the handed record of the chunks that
-- they launched
pub record BrokeOff (g : Setting) (from : stages.Stage) (a : MachineState) (old new : List Handed) : Type 0 where
  pub told : List Line
  pub to : stages.Stage
  pub after : Moment
  pub chunks : List Launched
  pub reaches : Launching g from a.moment told to after chunks
  pub list : List Handed
  pub gained : new ≡ old ++ list
  pub is : IsHandedRecord a.posts.workers chunks list

-- from the first profile on the stages of a nest led to the end of its run; at most two more stages than there were steps for
pub record StagesRan (g : Setting) (a : MachineState) (before : List Line) (old : List Handed) (finish : Finish) (b : MachineState) (lines : List Line) (new : List Handed) : Type 0 where
  pub told : List Line
  pub are : lines ≡ before ++ told
  pub chunks : List Launched
  pub reaches : Launching g stages.Profiles a.moment told (stages.Over finish) b.moment chunks
  pub count : length b.moment.store.scalars ≡ g.scalars
  pub fits : IsOfI64s b.moment.store
  pub hands : HandsOver chunks a.posts b.posts old new
  pub few : reach_of b ≤ reach_of a + 131072

-- some observations lead to a stage, with these lines behind those before
pub record IsJudged {D : ℕ} (g : Setting) (observations : List Observation) (before : List Line) (to : Stage D) (lines : List Line) : Type 0 where
  pub told : List Line
  pub are : lines ≡ before ++ told
  pub judged : AreJudged g observations told (stage_of to)
  pub due : IsDue g to

-- a nest of a file, by its number from 0, whose numbers are i64s, with options in their ranges
pub record IsUnit (file : File) (number : ℕ) (nest : Nest) (options : Options) : Type 0 where
  pub unit : NestUnit
  pub at : slice_get file.units number ≡ Some unit
  pub is : unit.nest ≡ nest
  pub keeps : NestKeeps (length file.scalars) nest.loops
  pub numbers : All HasI64s nest.loops
  pub scalars : length file.scalars ≤ 16
  pub scripts : length unit.scripts ≤ 16
  pub sample_from : pos 2 ≤ℤ options.sample
  pub sample_to : options.sample ≤ℤ pos 64
  pub chunk_from : pos 1 ≤ℤ options.chunk
  pub chunk_to : options.chunk ≤ℤ pos 1024

-- a nest of a file was run from one state of the machine to another, with the lines of its journey behind those before, and
-- finished so; what its journey hands to a crew was handed over; the number of scalars stays, and the store is one of i64s
pub record RunsUnit (file : File) (number : ℕ) (options : Options) (a : MachineState) (before : List Line) (old : List Handed) (finish : Finish) (b : MachineState) (lines : List Line) (new : List Handed) : Type 0 where
  pub told : List Line
  pub are : lines ≡ before ++ told
  pub chunks : List Launched
  pub journey : (u : NestUnit) → slice_get file.units number ≡ Some u
      → (nest : IsNestJourney (setting_of options (length file.scalars) u) a.moment.store a.moment.left a.moment.used told (cut_of b.moment.store b.moment.left b.moment.used finish))
      × (launched_in_nest nest ≡ chunks)
  pub count : length b.moment.store.scalars ≡ length file.scalars
  pub fits : IsOfI64s b.moment.store
  pub hands : HandsOver chunks a.posts b.posts old new
  pub few : reach_of b ≤ reach_of a + 131072

-- where memory was wanting in a nest of a file, what it had launched was handed over
pub record UnitBrokeOff (file : File) (number : ℕ) (options : Options) (a : MachineState) (old new : List Handed) : Type 0 where
  pub chunks : List Launched
  pub launched : (u : NestUnit) → slice_get file.units number ≡ Some u → NestHasLaunched (setting_of options (length file.scalars) u) a.moment.store a.moment.left a.moment.used chunks
  pub list : List Handed
  pub gained : new ≡ old ++ list
  pub is : IsHandedRecord a.posts.workers chunks list

-- the nests of a file were run from one state of the machine to another, with the lines of its journey behind those before
pub record RunsNests (file : File) (options : Options) (a : MachineState) (before : List Line) (old : List Handed) (finish : Finish) (b : MachineState) (lines : List Line) (new : List Handed) : Type 0 where
  pub told : List Line
  pub are : lines ≡ before ++ told
  pub chunks : List Launched
  pub journey : (is : IsJourneyOf options file.version (length file.scalars) file.units 1 a.moment.store a.moment.left a.moment.used told (cut_of b.moment.store b.moment.left b.moment.used finish))
      × (launched_in_nests options file.version (length file.scalars) file.units 1 a.moment.store a.moment.left a.moment.used told (cut_of b.moment.store b.moment.left b.moment.used finish) is ≡ chunks)
  pub count : length b.moment.store.scalars ≡ length file.scalars
  pub hands : HandsOver chunks a.posts b.posts old new

-- where memory was wanting in them, what they had launched was handed over
pub record NestsBrokeOff (file : File) (options : Options) (a : MachineState) (old new : List Handed) : Type 0 where
  pub chunks : List Launched
  pub launched : HaveLaunched options (length file.scalars) file.units a.moment.store a.moment.left a.moment.used chunks
  pub list : List Handed
  pub gained : new ≡ old ++ list
  pub is : IsHandedRecord a.posts.workers chunks list

-- a crew's list grew by what the journey of a file hands over; where memory was wanting, by what it hands over as far as it came
abbrev pub JourneyHanded : Options → File → List Handed → List Handed → Result Journey AllocError → Type 0
JourneyHanded options file old new (Ok j) =
    (list : List Handed) × (new ≡ old ++ list) × ((left : ℕ) × JourneyHands options file j.lines.items (cut_of j.state left j.steps (finish_of_ending j.ending)) list)
JourneyHanded options file old new (Err error) = (list : List Handed) × (new ≡ old ++ list) × BegunJourneyHands options file list

-- how the run of a nest ends with turns that ended so
abbrev pub ending_of : Turned → Ending
ending_of turned.Went = ending.Ended
ending_of turned.Ended = ending.Ended
ending_of (turned.Trapped trap) = ending.Trapped trap
ending_of turned.Limited = ending.Limited

-- what comes after turns in original order
abbrev pub next_stage : {D : ℕ} → Turned → Stage D
next_stage turned.Went = Profiles
next_stage turned.Ended = Over ending.Ended
next_stage (turned.Trapped trap) = Over (ending.Trapped trap)
next_stage turned.Limited = Over ending.Limited

-- the instance of a reason is one of a present block
abbrev pub IsPlacedIn : {D : ℕ} → List Loop → UnfitWhy D → Type 0
IsPlacedIn loops (why.Line at line seen) = at.block < length (present_blocks loops)
IsPlacedIn loops (why.Large number) = Unit {0}

-- a refusal names accesses of present blocks
pub record NamesPresent (loops : List Loop) (r : Refusal) : Type 0 where
  pub first : r.first.block < length (present_blocks loops)
  pub second : r.second.block < length (present_blocks loops)
