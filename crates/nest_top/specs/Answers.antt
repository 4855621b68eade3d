-- Answers: what arguments and a text give, as bytes and a status.
use Rattle.std.specs.Prelude.{◌≡◌, ◌↔◌, ◌≤◌, ◌^◌, ◌≤ℤ◌, ◌++◌, ℕ, pos, List, [], ◌∷◌, Bool, true, false, Option, Result, Ok, Err, codes, decimal, flat_map}
use Rattle.std.specs.List.{concat}
use Rattle.nest_lang.specs.declared.budget.Ending.{Ending}
use Rattle.nest_lang.specs.declared.budget.Ending.TheVariants as ending
use Rattle.nest_lang.specs.declared.tree.Trap.{Trap}
use Rattle.nest_lang.specs.Traces as traces
use Rattle.nest_lang.specs.Traces.{Cut, Finish}
use Rattle.nest_lang.specs.Runs as runs
use Rattle.nest_lang.specs.Runs.{plain_run, finish_of_ending}
use Rattle.nest_grammar.specs.declared.fault.TextFault.{TextFault}
use Rattle.nest_grammar.specs.declared.file.File.{File}
use Rattle.nest_grammar.specs.Files.{first_store, nests_of}
use Rattle.nest_grammar.specs.Contents.{reading}
use Rattle.canonical.specs.Contents.{canonical}
use Rattle.nest_text.specs.Files.{scalar_names}
use Rattle.report.specs.Faults.{refusal_line}
use Rattle.report.specs.Outcomes.{IsOutcome, line}
use Rattle.report.specs.Summaries.{summary}
use Rattle.report.specs.Lines.{line_text, listing_text}
use Rattle.report.specs.declared.journey.Options.{Options as JourneyOptions}
use Rattle.report.specs.declared.line.Line.{Line}
use Rattle.report.specs.declared.line.ListingLine.{ListingLine}
use Rattle.journeys.specs.Journeys.{IsJourney}
use Rattle.listing.specs.Listings.{IsListing}
use Rattle.command_line.specs.declared.invocation.Invocation.{Invocation}
use Rattle.command_line.specs.declared.invocation.Mode.{Mode}
use Rattle.command_line.specs.declared.invocation.Mode.TheVariants.{Plain, Run, Check, Deps, Gen}
use Rattle.command_line.specs.declared.invocation.Options.{Options}
use Rattle.command_line.specs.declared.recipe.Recipe.{Recipe}
use Rattle.command_line.specs.declared.recipe.Shape.{Shape}
use Rattle.command_line.specs.declared.recipe.Shape.TheVariants as shape
use Rattle.command_line.specs.Modes.{shape_word}
use Rattle.nest_gen.specs.declared.shapes.Shape.{Shape as Generated}
use Rattle.nest_gen.specs.declared.shapes.Shape.TheVariants as generated
use Rattle.nest_gen.specs.Generated.{text_of}
use Rattle.command_line.specs.Invocations.{IsInvocation, IsNoInvocation, usage_line}
use Rattle.nest_top.specs.declared.status.Status.{Status}
use Rattle.nest_top.specs.declared.status.Status.TheVariants.{Ended, Trapped, Limited, Refused, Usage, SourceFault, SinkFault, NoMemory}
use Rattle.nest_io.specs.declared.refusals.ReadEnd.{ReadEnd}
use Rattle.nest_io.specs.declared.refusals.ReadEnd.TheVariants as end
use Rattle.nest_top.specs.declared.unanswered.Unanswered.{Unanswered}
use Rattle.nest_top.specs.declared.unanswered.Unanswered.TheVariants as unanswered

-- the status of a run that ended so
abbrev pub status_of : Ending → Status
status_of ending.Ended = Ended
status_of (ending.Trapped trap) = Trapped
status_of ending.Limited = Limited

-- the plain run of a file's nests, one after another, from its first store within so many steps
abbrev pub run_of_file : File → ℕ → runs.Run
run_of_file file steps = plain_run (nests_of file) (first_store file) steps

-- bytes and a status are those of the plain run of a file within so many steps
pub record IsOutcomeOf (file : File) (steps : ℕ) (bytes : List ℕ) (status : Status) : Type 0 where
  pub ending : Ending
  pub ended : finish_of_ending ending ≡ (run_of_file file steps).ending
  pub written : IsOutcome (scalar_names file) (run_of_file file steps).store ending (run_of_file file steps).steps bytes
  pub answered : status ≡ status_of ending

-- the numbers of options are in their ranges
pub record AreInRange (options : Options) : Type 0 where
  pub workers_from : 1 ≤ options.workers
  pub workers_to : options.workers ≤ 64
  pub chunk_from : pos 1 ≤ℤ options.chunk
  pub chunk_to : options.chunk ≤ℤ pos 1024
  pub sample_from : pos 2 ≤ℤ options.sample
  pub sample_to : options.sample ≤ℤ pos 64
  pub steps : options.steps ≤ 2 ^ 32

-- the options of a journey
abbrev pub journey_options : Options → JourneyOptions
journey_options options = record { workers = options.workers; chunk = options.chunk; sample = options.sample; steps = options.steps }

-- bytes and a status are those of the plain run of a file, with the lines of its journey behind them, in their order
pub record IsReportOf (options : Options) (file : File) (bytes : List ℕ) (status : Status) : Type 0 where
  pub outcome : List ℕ
  pub is : IsOutcomeOf file options.steps outcome status
  pub lines : List Line
  pub end : Cut
  pub journey : IsJourney (journey_options options) file lines end
  pub written : bytes ≡ outcome ++ flat_map (line_text (scalar_names file)) lines

-- the line that names a generated file
abbrev pub heading : Recipe → List ℕ
heading recipe = line (concat (codes "gen " ∷ decimal recipe.seed ∷ codes " " ∷ shape_word recipe.shape ∷ codes " " ∷ decimal recipe.size ∷ []))

-- bytes and a status are those of the summary of a file's journey, behind the line that names the file: how its plain
-- run ends and after how many steps, how many lines of each kind the journey has, and the sum of the words that are
-- left
pub record IsSummaryOf (recipe : Recipe) (options : Options) (file : File) (bytes : List ℕ) (status : Status) : Type 0 where
  pub ending : Ending
  pub ended : finish_of_ending ending ≡ (run_of_file file options.steps).ending
  pub lines : List Line
  pub end : Cut
  pub journey : IsJourney (journey_options options) file lines end
  pub written : bytes ≡ heading recipe ++ summary ending (run_of_file file options.steps).steps lines (run_of_file file options.steps).store.memory
  pub answered : status ≡ status_of ending

-- bytes are those of the lines of a file's dependence listing, in their order
abbrev pub IsListingOf : Options → File → List ℕ → Type 0
IsListingOf options file bytes =
    (lines : List ListingLine) × IsListing (journey_options options) file lines × (bytes ≡ flat_map (listing_text (scalar_names file)) lines)

-- bytes and a status are the answer to a file: in mode `plain` those of its plain run, in mode `run` those and the
-- lines of its journey, in mode `check` its canonical text, in mode `deps` its dependence listing, in mode `gen` a
-- summary of its journey
abbrev pub AnswersFile : Mode → Options → File → List ℕ → Status → Type 0
AnswersFile Plain options file bytes status = IsOutcomeOf file options.steps bytes status
AnswersFile Run options file bytes status = IsReportOf options file bytes status
AnswersFile Check options file bytes status = (bytes ≡ canonical file) × (status ≡ Ended)
AnswersFile Deps options file bytes status = IsListingOf options file bytes × (status ≡ Ended)
AnswersFile (Gen recipe) options file bytes status = IsSummaryOf recipe options file bytes status

-- the shape of a generated text
abbrev pub shape_of : Shape → Generated
shape_of shape.Copy = generated.Copy
shape_of shape.List = generated.List
shape_of shape.Grid = generated.Grid

-- the text that is made by a recipe
abbrev pub text_made : Recipe → List ℕ
text_made recipe = text_of (shape_of recipe.shape) recipe.seed recipe.size

-- the text of which a mode gives an answer: mode `gen` makes one itself, every other mode takes that of the source
abbrev pub text_for : Mode → List ℕ → List ℕ
text_for (Gen recipe) text = text_made recipe
text_for mode text = text

-- bytes and a status are the answer of a mode to what a text reads as: the line of its first fault, or the answer to
-- its file
abbrev pub AnswersReading : Mode → Options → Result File TextFault → List ℕ → Status → Type 0
AnswersReading mode options (Err fault) bytes status = (bytes ≡ refusal_line fault) × (status ≡ Refused)
AnswersReading mode options (Ok file) bytes status = AnswersFile mode options file bytes status

-- The answer of arguments and a text: arguments that are no invocation give the usage line, and an invocation what its
-- mode answers to what its text reads as.
pub data IsAnswer (words : List (List ℕ)) (text : List ℕ) : List ℕ → Status → Type 0 where
  usage : IsNoInvocation words → IsAnswer words text usage_line Usage
  invoked : (c : Invocation) → IsInvocation words c → (bytes : List ℕ) (status : Status) → AnswersReading c.mode c.options (reading (text_for c.mode text)) bytes status → IsAnswer words text bytes status

-- the call answered: no fault and no want of memory stands in place of the answer
abbrev pub Answered : Status → Type 0
Answered SourceFault = ⊥
Answered SinkFault = ⊥
Answered NoMemory = ⊥
Answered status = Unit {0}

-- the modes that run a journey
abbrev pub has_journey : Mode → Bool
has_journey Run = true
has_journey (Gen recipe) = true
has_journey mode = false

-- the arguments ask for a journey
pub record AsksForJourney (words : List (List ℕ)) : Type 0 where
  pub invocation : Invocation
  pub is : IsInvocation words invocation
  pub has : has_journey invocation.mode ≡ true

-- the modes that take the text of the source
abbrev pub TakesText : Mode → Type 0
TakesText (Gen recipe) = ⊥
TakesText mode = Unit {0}

-- the arguments take no text: they are no invocation, or one that makes its text itself
abbrev pub TakesNothing : List (List ℕ) → Type 0
TakesNothing words = (invocation : Invocation) → IsInvocation words invocation → TakesText invocation.mode → ⊥

-- how the run of an invocation on a file finishes: in the modes `plain`, `run` and `gen` the plain run; in the modes
-- `check` and `deps` it is done
abbrev pub finish_of : Mode → Options → File → Finish
finish_of Plain options file = (run_of_file file options.steps).ending
finish_of Run options file = (run_of_file file options.steps).ending
finish_of Check options file = traces.Done
finish_of Deps options file = traces.Done
finish_of (Gen recipe) options file = (run_of_file file options.steps).ending

-- the arguments are an invocation, its text reads as a file, and the invocation's run on it finishes so
pub record Finishes (words : List (List ℕ)) (text : List ℕ) (finish : Finish) : Type 0 where
  pub invocation : Invocation
  pub is : IsInvocation words invocation
  pub file : File
  pub reads : reading (text_for invocation.mode text) ≡ Ok file
  pub finished : finish_of invocation.mode invocation.options file ≡ finish

-- the arguments are an invocation, and its text has a fault
pub record IsRefused (words : List (List ℕ)) (text : List ℕ) : Type 0 where
  pub invocation : Invocation
  pub is : IsInvocation words invocation
  pub fault : TextFault
  pub reads : reading (text_for invocation.mode text) ≡ Err fault

-- when each status is the answer's
pub record Causes (words : List (List ℕ)) (text : List ℕ) (status : Status) : Type 0 where
  pub usage : (status ≡ Usage) ↔ IsNoInvocation words
  pub refused : (status ≡ Refused) ↔ IsRefused words text
  pub ended : (status ≡ Ended) ↔ Finishes words text traces.Done
  pub trapped : (status ≡ Trapped) ↔ ((trap : Trap) × Finishes words text (traces.Halted (traces.Trapped trap)))
  pub limited : (status ≡ Limited) ↔ Finishes words text traces.Limited

-- the source was read to its end or to the limit: no fault of it and no want of memory ended the call
abbrev pub Reading : Status → Type 0
Reading SourceFault = ⊥
Reading NoMemory = ⊥
Reading status = Unit {0}

-- why there is no answer where the source was not read
abbrev pub unanswered_by : ReadEnd → Unanswered
unanswered_by end.Fault = unanswered.SourceFault
unanswered_by end.NoMemory = unanswered.NoMemory

-- the status where there is no answer
abbrev pub status_of_unanswered : Unanswered → Status
status_of_unanswered unanswered.SourceFault = SourceFault
status_of_unanswered unanswered.NoMemory = NoMemory
