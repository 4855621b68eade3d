-- What holds of journeys.
use Rattle.std.specs.Prelude.{◌≡◌, ◌<◌, ◌≤◌, ◌-◌, ◌^◌, ◌⊎◌, ℕ, ℤ, pos, ◌≤ℤ◌, List, ◌++◌, length, slice_get, Some}
use Rattle.std.specs.List.{All}
use Rattle.nest_lang.specs.declared.state.Outer.{Outer}
use Rattle.nest_lang.specs.Stores.{Store}
use Rattle.nest_lang.specs.Traces.{Finish, Cut, cut, cut_of}
use Rattle.nest_lang.specs.Runs.{nest_trace, plain_run, run_of}
use Rattle.transform.specs.Schedules.{Schedule}
use Rattle.domain.specs.declared.chunk.Chunk.{Chunk}
use Rattle.domain.specs.declared.held.HeldWhy.{HeldWhy}
use Rattle.domain.specs.Tables.{IsTable, Table}
use Rattle.domain.specs.Instances.{Instance}
use Rattle.domain.specs.Launches.{IsHeld, IsLaunched}
use Rattle.skeletons.specs.Cells.{Extent}
use Rattle.chunk_run.specs.ChunkEnds.{HasNumbers}
use Rattle.nest_grammar.specs.declared.file.File.{File}
use Rattle.nest_grammar.specs.Files.{first_store, nests_of}
use Rattle.nest_grammar.specs.Rules.{KeepsRules}
use Rattle.profile.specs.Reach.{HasI64s, IsOfI64s}
use Rattle.report.specs.declared.journey.Options.{Options}
use Rattle.report.specs.declared.line.Line.{Line}
use Rattle.journeys.specs.Settings.{Setting, Moment, chunk_turns, plain_turns}
use Rattle.journeys.specs.Stages.{Stage, Profiles, ProfileLeads, ChunkLeads, PlainLeads, Leads, Reaches}
use Rattle.journeys.specs.Journeys.{IsNestJourney, IsJourney, entered_at}
use Rattle.journeys.specs.HandedRecords.{Launched, HaveLaunched, launched_in}

-- a moment is one of the plain run of the turns from a start: the run of so many turns leads there
pub record IsPlainMoment (g : Setting) (k : ℕ) (start m : Moment) : Type 0 where
  pub turns : ℕ
  pub finish : Finish
  pub cut : cut_of m.store m.left m.used finish ≡ cut (plain_turns g k start turns start.store) start.store start.left start.used

-- the moment at each line of a nest's journey is one of the plain run
abbrev pub MomentsArePlain : Type 0
MomentsArePlain = (g : Setting) (k : ℕ) (o : Outer) (s : Store) (left used t : ℕ) (lines : List Line) (stage : Stage) (m : Moment) → left < k → o.next ≡ pos t
    → Reaches g Profiles (entered_at g o s left used) lines stage m → IsPlainMoment g k (entered_at g o s left used) m

-- the run of a nest's journey is its plain run
abbrev pub NestRunIsPlain : Type 0
NestRunIsPlain = (g : Setting) (k : ℕ) (s : Store) (left used : ℕ) (lines : List Line) (end : Cut) → left < k
    → IsNestJourney g s left used lines end → end ≡ cut (nest_trace k g.loops s) s left used

-- the run of a file's journey is the plain run of its nests
abbrev pub RunIsPlain : Type 0
RunIsPlain = (options : Options) (file : File) (lines : List Line) (end : Cut) → IsJourney options file lines end → run_of end ≡ plain_run (nests_of file) (first_store file) options.steps

-- the same lines, stage and moment
pub record SameWay (lines others : List Line) (stage another : Stage) (after other : Moment) : Type 0 where
  pub told : lines ≡ others
  pub next : stage ≡ another
  pub there : after ≡ other

-- turns in original order lead one way
abbrev pub PlainLeadsOneWay : Type 0
PlainLeadsOneWay = (turns : ℕ) (g : Setting) (m : Moment) (lines others : List Line) (stage another : Stage) (after other : Moment)
    → PlainLeads turns g m lines stage after → PlainLeads turns g m others another other → SameWay lines others stage another after other

-- a profile leads one way: to the first unfit datum, or to the fit and the first legal candidate
abbrev pub ProfileLeadsOneWay : Type 0
ProfileLeadsOneWay = (g : Setting) (m : Moment) (lines others : List Line) (stage another : Stage) (after other : Moment)
    → ProfileLeads g m lines stage after → ProfileLeads g m others another other → SameWay lines others stage another after other

-- a chunk leads one way: it is held at one instance, or deviates first in one way, or is committed with one set of numbers
abbrev pub ChunkLeadsOneWay : Type 0
ChunkLeadsOneWay = (t : Table) (number : ℕ) (g : Setting) (m : Moment) (lines others : List Line) (stage another : Stage) (after other : Moment)
    → ChunkLeads t number g m lines stage after → ChunkLeads t number g m others another other → SameWay lines others stage another after other

-- each stage leads one way
abbrev pub StageLeadsOneWay : Type 0
StageLeadsOneWay = (g : Setting) (from : Stage) (m : Moment) (lines others : List Line) (stage another : Stage) (after other : Moment)
    → Leads g from m lines stage after → Leads g from m others another other → SameWay lines others stage another after other

-- the same lines and end
pub record SameJourney (lines others : List Line) (end other : Cut) : Type 0 where
  pub told : lines ≡ others
  pub ends : end ≡ other

-- a nest has at most one journey from a store with so many steps left and used
abbrev pub OneNestJourney : Type 0
OneNestJourney = (g : Setting) (s : Store) (left used : ℕ) (lines others : List Line) (end other : Cut)
    → IsNestJourney g s left used lines end → IsNestJourney g s left used others other → SameJourney lines others end other

-- a file has at most one journey with the same options
abbrev pub OneJourney : Type 0
OneJourney = (options : Options) (file : File) (lines others : List Line) (end other : Cut)
    → IsJourney options file lines end → IsJourney options file others other → SameJourney lines others end other

-- a chunk of at least one turn, from a turn that isn't negative, is launched or held
abbrev pub LaunchHasEnd : Type 0
LaunchHasEnd = (D : ℕ) (t : Table) (chunk : Chunk) (words : ℤ) → IsTable D t → pos 0 ≤ℤ chunk.first → pos 1 ≤ℤ chunk.turns
    → ((instances : ℕ) × IsLaunched t words chunk instances) ⊎ ((x : Instance) × (why : HeldWhy) × IsHeld t words chunk x why)

-- and not both: it is held at one instance for one reason, or launched with one number of instances
pub record HasOneEnd (t : Table) (chunk : Chunk) (words : ℤ) : Type 0 where
  pub held : (x y : Instance) (why other : HeldWhy) → IsHeld t words chunk x why → IsHeld t words chunk y other → (x ≡ y) × (why ≡ other)
  pub launched : (m n : ℕ) → IsLaunched t words chunk m → IsLaunched t words chunk n → m ≡ n
  pub not_both : (x : Instance) (why : HeldWhy) (n : ℕ) → IsHeld t words chunk x why → IsLaunched t words chunk n → ⊥

abbrev pub LaunchHasOneEnd : Type 0
LaunchHasOneEnd = (t : Table) (chunk : Chunk) (words : ℤ) → HasOneEnd t chunk words

-- a launched chunk has its numbers
abbrev pub LaunchHasNumbers : Type 0
LaunchHasNumbers = (e : Extent) (words : ℤ) (instances : ℕ) → IsLaunched e.table words e.chunk instances → (phases : ℕ) × (tiles : ℕ) × HasNumbers e words instances phases tiles

-- and one set of them
pub record SameNumbers (instances phases tiles instances' phases' tiles' : ℕ) : Type 0 where
  pub instances_same : instances ≡ instances'
  pub phases_same : phases ≡ phases'
  pub tiles_same : tiles ≡ tiles'

abbrev pub LaunchHasOneSet : Type 0
LaunchHasOneSet = (e : Extent) (words : ℤ) (instances phases tiles instances' phases' tiles' : ℕ) → HasNumbers e words instances phases tiles → HasNumbers e words instances' phases' tiles' → SameNumbers instances phases tiles instances' phases' tiles'

-- a profile and turns in original order lead somewhere
abbrev pub ProfileLeadsSomewhere : Type 0
ProfileLeadsSomewhere = (g : Setting) (m : Moment) → (lines : List Line) × (stage : Stage) × (after : Moment) × ProfileLeads g m lines stage after

abbrev pub PlainLeadsSomewhere : Type 0
PlainLeadsSomewhere = (turns : ℕ) (g : Setting) (m : Moment) → (lines : List Line) × (stage : Stage) × (after : Moment) × PlainLeads turns g m lines stage after

-- a chunk of at least one turn, from a turn that isn't negative, leads somewhere, where its table is one and its candidate
-- is there
abbrev pub ChunkLeadsSomewhere : Type 0
ChunkLeadsSomewhere = (t : Table) (number : ℕ) (g : Setting) (m : Moment) (s : Schedule) → IsTable (length g.loops) t → slice_get g.candidates (number - 1) ≡ Some s → pos 0 ≤ℤ m.outer.next → 1 ≤ chunk_turns g m
    → (lines : List Line) × (stage : Stage) × (after : Moment) × ChunkLeads t number g m lines stage after

-- what holds of each file that a text reads as, whose numbers are i64s, and of the options of each run: the file keeps the
-- rules, profiles and chunks have at least one turn, and there are at most 2^32 steps
pub record IsRunnable (options : Options) (file : File) : Type 0 where
  pub keeps : KeepsRules file
  pub numbers : All (λ u. All HasI64s u.nest.loops) file.units
  pub store : IsOfI64s (first_store file)
  pub sample : pos 1 ≤ℤ options.sample
  pub chunk : pos 1 ≤ℤ options.chunk
  pub steps : options.steps ≤ 2 ^ 32

-- such a file has a journey
abbrev pub SomeJourney : Type 0
SomeJourney = (options : Options) (file : File) → IsRunnable options file → (lines : List Line) × (end : Cut) × IsJourney options file lines end

-- ---- handed records

-- a journey launches one list of chunks, so what it hands to a crew is a matter of the file and the options alone
abbrev pub OneLaunched : Type 0
OneLaunched = (options : Options) (file : File) (lines others : List Line) (end other : Cut) (a : IsJourney options file lines end) (b : IsJourney options file others other)
    → launched_in options file lines end a ≡ launched_in options file others other b

-- what a run has launched as far as it came are the first launched chunks of a journey of the file
abbrev pub BegunGoesOn : Type 0
BegunGoesOn = (options : Options) (file : File) (chunks : List Launched) → IsRunnable options file → HaveLaunched options (length file.scalars) file.units (first_store file) options.steps 0 chunks
    → (lines : List Line) × (end : Cut) × (journey : IsJourney options file lines end) × (rest : List Launched) × (launched_in options file lines end journey ≡ chunks ++ rest)
