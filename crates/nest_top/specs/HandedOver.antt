-- What a call hands to its crew: the handed record of its journey.
use Rattle.std.specs.Prelude.{◌≡◌, ◌⊎◌, ℕ, List, [], ◌++◌, Option, Result, Ok, Err, true}
use Rattle.std.specs.declared.alloc.AllocError.{AllocError}
use Rattle.nest_lang.specs.Traces.{Cut}
use Rattle.nest_grammar.specs.declared.fault.TextFault.{TextFault}
use Rattle.nest_grammar.specs.declared.file.File.{File}
use Rattle.nest_grammar.specs.Contents.{reading}
use Rattle.crew.specs.declared.handed.Handed.{Handed}
use Rattle.report.specs.declared.line.Line.{Line}
use Rattle.journeys.specs.HandedRecords.{BegunJourneyHands, JourneyHands}
use Rattle.command_line.specs.declared.invocation.Invocation.{Invocation}
use Rattle.command_line.specs.declared.invocation.Options.{Options}
use Rattle.command_line.specs.Invocations.{IsInvocation}
use Rattle.nest_top.specs.declared.answer.Answer.{Answer}
use Rattle.nest_top.specs.declared.status.Status.{Status}
use Rattle.nest_top.specs.declared.status.Status.TheVariants.{SourceFault, NoMemory}
use Rattle.nest_top.specs.declared.unanswered.Unanswered.{Unanswered}
use Rattle.nest_top.specs.Answers.{has_journey, journey_options, status_of_unanswered, text_for}

-- ---- of a file

-- a crew's list grew by what the journey of a file hands over
pub record GainsJourney (options : Options) (file : File) (old new : List Handed) : Type 0 where
  pub list : List Handed
  pub gained : new ≡ old ++ list
  pub lines : List Line
  pub end : Cut
  pub hands : JourneyHands (journey_options options) file lines end list

-- a crew's list grew by what it hands over as far as it came
pub record GainsBegun (options : Options) (file : File) (old new : List Handed) : Type 0 where
  pub list : List Handed
  pub gained : new ≡ old ++ list
  pub hands : BegunJourneyHands (journey_options options) file list

-- it grew so where the answer to a file was made, and where memory was wanting on the way
abbrev pub FileHanded : Options → File → List Handed → List Handed → Result Answer AllocError → Type 0
FileHanded options file old new (Ok answer) = GainsJourney options file old new
FileHanded options file old new (Err error) = GainsJourney options file old new ⊎ GainsBegun options file old new

-- ---- of what a text reads as: nothing where it has a fault

abbrev pub ReadingHanded : Options → Result File TextFault → List Handed → List Handed → Result Answer AllocError → Type 0
ReadingHanded options (Ok file) old new (Ok answer) = GainsJourney options file old new
ReadingHanded options (Ok file) old new (Err error) = (new ≡ old) ⊎ (GainsJourney options file old new ⊎ GainsBegun options file old new)
ReadingHanded options (Err fault) old new result = new ≡ old

-- ---- of a call

-- the arguments ask for a journey, and their text reads as this file
pub record AsksFor (words : List (List ℕ)) (text : List ℕ) (invocation : Invocation) (file : File) : Type 0 where
  pub is : IsInvocation words invocation
  pub has : has_journey invocation.mode ≡ true
  pub reads : reading (text_for invocation.mode text) ≡ Ok file

-- What a call hands over that runs its journey to the end: nothing where it has none, and else the handed record of the
-- journey.
pub data HandsOver (words : List (List ℕ)) (text : List ℕ) : List Handed → Type 0 where
  nothing : ((invocation : Invocation) (file : File) → AsksFor words text invocation file → ⊥) → HandsOver words text []
  journey : (invocation : Invocation) (file : File) → AsksFor words text invocation file → (lines : List Line) (end : Cut) (list : List Handed)
      → JourneyHands (journey_options invocation.options) file lines end list → HandsOver words text list

-- What a call hands over for which memory was wanting: nothing, the handed record of the journey as far as it came, or
-- all of it.
pub data HandsSome (words : List (List ℕ)) (text : List ℕ) : List Handed → Type 0 where
  nothing : HandsSome words text []
  begun : (invocation : Invocation) (file : File) → AsksFor words text invocation file → (list : List Handed)
      → BegunJourneyHands (journey_options invocation.options) file list → HandsSome words text list
  whole : (list : List Handed) → HandsOver words text list → HandsSome words text list

-- a crew's list grew by a list that is so
pub record Gains (Is : List Handed → Type 0) (old new : List Handed) : Type 0 where
  pub list : List Handed
  pub gained : new ≡ old ++ list
  pub is : Is list

-- `IsHanded words text status old new`: a call with these arguments and this text that went so did this to its crew's
-- list. After a fault of the source it is as it was; after one of the sink it grew as after an answer.
abbrev pub IsHanded : List (List ℕ) → List ℕ → Status → List Handed → List Handed → Type 0
IsHanded words text SourceFault old new = new ≡ old
IsHanded words text NoMemory old new = Gains (HandsSome words text) old new
IsHanded words text status old new = Gains (HandsOver words text) old new

-- the same where an answer was made, or none was
abbrev pub IsHandedMade : List (List ℕ) → List ℕ → List Handed → List Handed → Result Answer Unanswered → Type 0
IsHandedMade words text old new (Ok answer) = Gains (HandsOver words text) old new
IsHandedMade words text old new (Err why) = IsHanded words text (status_of_unanswered why) old new
