-- Handed records: which chunks a journey launches, and what it hands to a crew for them.
use Rattle.std.specs.Prelude.{◌≡◌, ◌-◌, ◌⊎◌, ℕ, suc, List, [], ◌∷◌, ◌++◌, length, Ok}
use Rattle.nest_lang.specs.declared.state.Outer.{Outer}
use Rattle.nest_lang.specs.Stores.{Store}
use Rattle.nest_lang.specs.Traces.{Finish, Done, Halted, Limited, Cut}
use Rattle.nest_grammar.specs.declared.file.File.{File}
use Rattle.nest_grammar.specs.declared.file.NestUnit.{NestUnit}
use Rattle.nest_grammar.specs.declared.version.Version.{Version}
use Rattle.nest_grammar.specs.Files.{first_store}
use Rattle.domain.specs.Tables.{Table}
use Rattle.skeletons.specs.Cells.{Extent}
use Rattle.crew.specs.declared.handed.Handed.{Handed}
use Rattle.chunk_run.specs.declared.run.ChunkEnd.{ChunkEnd}
use Rattle.chunk_run.specs.declared.run.ChunkEnd.TheVariants.{Committed, RolledBack}
use Rattle.chunk_run.specs.Groups.{IsWholeGroup, IsBegunGroup}
use Rattle.report.specs.declared.journey.Options.{Options}
use Rattle.report.specs.declared.line.Line.{Line}
use Rattle.journeys.specs.Settings.{Setting, Moment, entry, next_chunk, setting_of}
use Rattle.journeys.specs.Stages.{Stage, Profiles, ChunkLeads, Leads, Reaches}
use Rattle.journeys.specs.Stages.ChunkLeads.{held, rolled_back, committed}
use Rattle.journeys.specs.Stages.Leads.{no_profile, no_chunk, profile, chunk, plainly}
use Rattle.journeys.specs.Stages.Reaches.{begun, then}
use Rattle.journeys.specs.Journeys.{IsNestJourney, IsJourneyOf, IsJourney, entered_at, where_ended}
use Rattle.journeys.specs.Journeys.IsNestJourney.{not_entered, entered}

-- ---- the launched chunks of a journey

-- a launched chunk, and how it ended: it was committed with these numbers, or rolled back
pub record Launched : Type 0 where
  pub extent : Extent
  pub end : ChunkEnd

-- A chunk is launched exactly where a commit or a rollback line tells of it.
abbrev pub launched_at : {t : Table} {number : ℕ} {g : Setting} {m after : Moment} {lines : List Line} {stage : Stage} → ChunkLeads t number g m lines stage after → List Launched
launched_at (held at why is) = []
launched_at {t} {number} {g} {m} (rolled_back s instances at how which launched deviates) =
    record { extent = record { table = t; schedule = s; chunk = next_chunk g m }; end = RolledBack } ∷ []
launched_at {t} {number} {g} {m} (committed s instances phases tiles after which numbers follows ran) =
    record { extent = record { table = t; schedule = s; chunk = next_chunk g m }; end = Committed instances phases tiles (m.left - after.left) } ∷ []

-- no other stage launches one
abbrev pub launched_by : {g : Setting} {from stage : Stage} {m after : Moment} {lines : List Line} → Leads g from m lines stage after → List Launched
launched_by (no_profile m off) = []
launched_by (no_chunk t number m off) = []
launched_by (profile m after lines stage on leads) = []
launched_by (chunk t number m after lines stage on leads) = launched_at leads
launched_by (plainly turns m after lines stage leads) = []

-- the chunks that some stages launch, in order
abbrev pub launched_on : {g : Setting} {from : Stage} {start : Moment} {lines : List Line} {stage : Stage} {m : Moment} → Reaches g from start lines stage m → List Launched
launched_on begun = []
launched_on (then lines more stage next m after reaches leads) = launched_on reaches ++ launched_by leads

-- some stages lead from one stage and moment to another, tell these lines and launch these chunks
abbrev pub Launching : Setting → Stage → Moment → List Line → Stage → Moment → List Launched → Type 0
Launching g from m told to after chunks = (reaches : Reaches g from m told to after) × (launched_on reaches ≡ chunks)

-- those of a nest
abbrev pub launched_in_nest : {g : Setting} {s : Store} {left used : ℕ} {lines : List Line} {end : Cut} → IsNestJourney g s left used lines end → List Launched
launched_in_nest (not_entered finish none) = []
launched_in_nest (entered o lines finish end at reaches) = launched_on reaches

-- those of what follows a nest: of the nests behind it where it ended, and else none
abbrev pub launched_behind : (follows stays : Type 0) → (follows → List Launched) → (finish : Finish) → where_ended finish follows stays → List Launched
launched_behind follows stays launched Done next = launched next
launched_behind follows stays launched (Halted halt) none = []
launched_behind follows stays launched Limited none = []

-- those of nests
abbrev pub launched_in_nests : (options : Options) (version : Version) (scalars : ℕ) (units : List NestUnit) (number : ℕ) (s : Store) (left used : ℕ) (lines : List Line) (end : Cut)
    → IsJourneyOf options version scalars units number s left used lines end → List Launched
launched_in_nests options version scalars [] number s left used lines end journey = []
launched_in_nests options version scalars (unit ∷ units) number s left used lines end (own, rest, here, nest, follows, are) =
    launched_in_nest nest
    ++ launched_behind (IsJourneyOf options version scalars units (suc number) here.store here.left here.used rest end) ((rest ≡ []) × (end ≡ here))
    (launched_in_nests options version scalars units (suc number) here.store here.left here.used rest end) here.ending follows

-- the launched chunks of a file's journey: one for each commit and rollback line, in order
abbrev pub launched_in : (options : Options) (file : File) (lines : List Line) (end : Cut) → IsJourney options file lines end → List Launched
launched_in options file lines end journey =
    launched_in_nests options file.version (length file.scalars) file.units 1 (first_store file) options.steps 0 lines end journey

-- ---- handed records

-- A commit line's group has every non-empty phase once, in order, and its steps add up to the steps of the line. A rollback
-- line's group is a non-empty prefix of the list of non-empty phases, with any steps.
abbrev pub IsGroup : ℕ → Extent → ChunkEnd → List Handed → Type 0
IsGroup workers e (Committed instances phases tiles steps) group = IsWholeGroup e workers steps group
IsGroup workers e RolledBack group = IsBegunGroup e workers group

-- the list is the concatenation of one group each, over launched chunks in order
abbrev pub IsHandedRecord : ℕ → List Launched → List Handed → Type 0
IsHandedRecord workers [] list = list ≡ []
IsHandedRecord workers (l ∷ ls) list =
    (group : List Handed) × (rest : List Handed) × IsGroup workers l.extent l.end group × IsHandedRecord workers ls rest × (list ≡ group ++ rest)

-- the list is what the journey of a file with these lines and this end hands to a crew of the options' workers
abbrev pub JourneyHands : Options → File → List Line → Cut → List Handed → Type 0
JourneyHands options file lines end list = (journey : IsJourney options file lines end) × IsHandedRecord options.workers (launched_in options file lines end journey) list

-- ---- as far as a run came

-- a nest has launched these chunks as far as its run came: none before its outermost loop was entered, and then those of the
-- stages up to some moment
pub data NestHasLaunched (g : Setting) (s : Store) (left used : ℕ) : List Launched → Type 0 where
  not_begun : NestHasLaunched g s left used []
  so_far : (o : Outer) (lines : List Line) (stage : Stage) (m : Moment) → entry g.loops s left ≡ Ok o → (reaches : Reaches g Profiles (entered_at g o s left used) lines stage m)
      → NestHasLaunched g s left used (launched_on reaches)

-- and so nests, one after another: the run came into the first of them; or this one ended, and the run came into those behind it
abbrev pub HaveLaunched : Options → ℕ → List NestUnit → Store → ℕ → ℕ → List Launched → Type 0
HaveLaunched options scalars [] s left used chunks = chunks ≡ []
HaveLaunched options scalars (unit ∷ units) s left used chunks =
    NestHasLaunched (setting_of options scalars unit) s left used chunks
    ⊎ ((own : List Line) × (here : Cut) × (nest : IsNestJourney (setting_of options scalars unit) s left used own here) × (here.ending ≡ Done)
    × (more : List Launched) × HaveLaunched options scalars units here.store here.left here.used more × (chunks ≡ launched_in_nest nest ++ more))

-- the list is what a journey of a file hands to a crew of the options' workers as far as it came: the handed record of the
-- chunks that it has launched
abbrev pub BegunJourneyHands : Options → File → List Handed → Type 0
BegunJourneyHands options file list =
    (chunks : List Launched) × HaveLaunched options (length file.scalars) file.units (first_store file) options.steps 0 chunks × IsHandedRecord options.workers chunks list
