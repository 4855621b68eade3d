-- Runs: what a call of the program does to its source and its sink.
use Rattle.std.specs.Prelude.{◌≡◌, ◌⊎◌, ◌≤◌, ℕ, List, Option, Some, None, Result, Ok, Err, IfSome}
use Rattle.nest_io.specs.Faults.{Rose}
use Rattle.nest_io.specs.Bytes.{Appends, AppendsFront}
use Rattle.command_line.specs.declared.invocation.Invocation.{Invocation}
use Rattle.command_line.specs.Invocations.{IsInvocation}
use Rattle.nest_top.specs.declared.status.Status.{Status}
use Rattle.nest_top.specs.declared.status.Status.TheVariants.{SourceFault, SinkFault, NoMemory}
use Rattle.nest_top.specs.declared.answer.Answer.{Answer}
use Rattle.nest_top.specs.declared.unanswered.Unanswered.{Unanswered}
use Rattle.nest_top.specs.declared.unanswered.Unanswered.TheVariants as unanswered
use Rattle.nest_top.specs.Texts.{IsTextOf, IsRead}
use Rattle.nest_top.specs.Answers.{IsAnswer, Answered, AsksForJourney, Causes, Reading, TakesNothing, TakesText}

-- a source or a sink over a call: the bytes that it tells, its count of faults, and itself before and after
pub record Over (X : Type 0) : Type 0 where
  pub bytes : X → Option (List ℕ)
  pub faults : X → ℕ
  pub before : X
  pub after : X

-- `IsRun words text source sink status`: a call with these arguments and this text did this to its source and its sink,
-- and went so.
pub record IsRun {S K : Type 0} (words : List (List ℕ)) (text : List ℕ) (source : Over S) (sink : Over K) (status : Status) : Type 0 where
  -- The status is that of the answer and comes exactly where its cause holds, and the sink got the bytes of the
  -- answer, all of them.
  pub answer : Answered status → (bytes : List ℕ)
      × IsAnswer words text bytes status × Causes words text status
      × Appends (sink.bytes sink.before) (sink.bytes sink.after) bytes
  -- After a fault of the source the sink is as it was; after one of the sink it got a front of the answer's bytes.
  pub source_fault : status ≡ SourceFault → Rose (source.faults source.before) (source.faults source.after) × (sink.after ≡ sink.before)
  pub sink_fault : status ≡ SinkFault → Rose (sink.faults sink.before) (sink.faults sink.after)
      × ((bytes : List ℕ) × (answered : Status)
      × IsAnswer words text bytes answered
      × AppendsFront (sink.bytes sink.before) (sink.bytes sink.after) bytes)
  pub no_memory : status ≡ NoMemory → sink.after ≡ sink.before
  -- Arguments that take no text read nothing; an invocation that takes one reads to the end, or one byte more than a
  -- text may have.
  pub unread : TakesNothing words → source.after ≡ source.before
  pub read : (invocation : Invocation) → IsInvocation words invocation → TakesText invocation.mode → Reading status → IsRead (source.bytes source.before) (source.bytes source.after)
  pub source_counts : source.faults source.before ≤ source.faults source.after
  pub sink_counts : sink.faults sink.before ≤ sink.faults sink.after

-- `IsAlone words source sink result`: a call with these arguments that runs no journey did this. A status comes as in
-- every run; none comes exactly where the arguments ask for a journey, unless want of memory comes in its place, and
-- then nothing was read or written.
pub record IsAlone {S K : Type 0} (words : List (List ℕ)) (source : Over S) (sink : Over K) (result : Option Status) : Type 0 where
  pub run : IfSome result (λ status. (text : List ℕ) × IsTextOf (source.bytes source.before) text × IsRun words text source sink status)
  pub none : result ≡ None → AsksForJourney words
  pub journey : AsksForJourney words → ((result ≡ None) ⊎ (result ≡ Some NoMemory)) × (source.after ≡ source.before) × (sink.after ≡ sink.before)

-- ---- on the way

-- an answer was made for the arguments and a text
pub record IsAnswerMade {S : Type 0} (words : List (List ℕ)) (text : List ℕ) (source : Over S) (bytes : List ℕ) (status : Status) : Type 0 where
  pub answer : IsAnswer words text bytes status
  pub unread : TakesNothing words → source.after ≡ source.before
  pub read : (invocation : Invocation) → IsInvocation words invocation → TakesText invocation.mode → IsRead (source.bytes source.before) (source.bytes source.after)
  pub counts : source.faults source.before ≤ source.faults source.after

-- none was made
pub record IsNoneMade {S : Type 0} (words : List (List ℕ)) (source : Over S) (why : Unanswered) : Type 0 where
  pub fault : why ≡ unanswered.SourceFault → Rose (source.faults source.before) (source.faults source.after)
  pub unread : TakesNothing words → source.after ≡ source.before
  pub counts : source.faults source.before ≤ source.faults source.after

abbrev pub IsMade : {S : Type 0} → List (List ℕ) → List ℕ → Over S → Result Answer Unanswered → Type 0
IsMade words text source (Ok answer) = IsAnswerMade words text source answer.bytes.items answer.status
IsMade words text source (Err why) = IsNoneMade words source why

-- the same where no answer is made to arguments that ask for a journey
abbrev pub IsMadeAlone : {S : Type 0} → List (List ℕ) → Over S → Result (Option Answer) Unanswered → Type 0
IsMadeAlone words source (Ok (Some answer)) =
    ((text : List ℕ) × IsTextOf (source.bytes source.before) text × IsAnswerMade words text source answer.bytes.items answer.status) × (AsksForJourney words → ⊥)
IsMadeAlone words source (Ok None) = AsksForJourney words × (source.after ≡ source.before)
IsMadeAlone words source (Err why) = IsNoneMade words source why × (AsksForJourney words → (why ≡ unanswered.NoMemory) × (source.after ≡ source.before))

-- the bytes of an answer were put into a sink, and the call goes with the answer's status; or the sink failed behind a
-- front of them
pub record IsPut {K : Type 0} (sink : Over K) (bytes : List ℕ) (answered status : Status) : Type 0 where
  pub put : ((status ≡ answered) × Appends (sink.bytes sink.before) (sink.bytes sink.after) bytes)
      ⊎ ((status ≡ SinkFault) × Rose (sink.faults sink.before) (sink.faults sink.after) × AppendsFront (sink.bytes sink.before) (sink.bytes sink.after) bytes)
  pub counts : sink.faults sink.before ≤ sink.faults sink.after
