-- Answers: which status has which cause, and that there is one.
use Rattle.std.proofs.Common.{◌≡◌, refl, ap, ap₂, ◌∙◌, sym, subst, ℕ, ℤ, List, [], ◌++◌, Option, Some, None, Result, Ok, Err, IfOk, ◌≤ℤ◌, arith, pos, inl, inr}
use Rattle.std.proofs.lemmas.Int.{ints}
use Rattle.nest_lang.specs.declared.tree.Trap.{Trap}
use Rattle.nest_lang.specs.declared.budget.Ending.{Ending}
use Rattle.nest_lang.specs.declared.budget.Ending.TheVariants as ending
use Rattle.nest_lang.specs.Traces as traces
use Rattle.nest_lang.specs.Traces.{Cut, Finish}
use Rattle.nest_lang.specs.Runs.{finish_of_ending}
use Rattle.nest_grammar.specs.declared.fault.TextFault.{TextFault}
use Rattle.nest_grammar.specs.declared.file.File.{File}
use Rattle.nest_grammar.specs.Files.{first_store, nests_of}
use Rattle.nest_grammar.specs.Contents.{reading}
use Rattle.canonical.specs.Contents.{canonical}
use Rattle.report.specs.declared.runs.WordRun.{WordRun}
use Rattle.report.specs.Outcomes.{outcome_lines}
use Rattle.report.specs.Faults.{refusal_line}
use Rattle.report.specs.Summaries.{summary}
use Rattle.report.proofs.RunLaws.{longest-runs}
use Rattle.report.proofs.OneList.{same-runs}
use Rattle.command_line.specs.declared.invocation.Invocation.{Invocation}
use Rattle.command_line.specs.declared.invocation.Mode.{Mode}
use Rattle.command_line.specs.declared.invocation.Mode.TheVariants.{Plain, Run, Check, Deps, Gen}
use Rattle.command_line.specs.declared.invocation.Options.{Options}
use Rattle.command_line.specs.declared.recipe.Recipe.{Recipe}
use Rattle.command_line.specs.Invocations.{IsInvocation, IsNoInvocation, usage_line}
use Rattle.command_line.proofs.FoundWordLaws.{one_invocation}
use Rattle.command_line.proofs.InvocationLaws.{invocation_or_none}
use Rattle.std.specs.Str.Parse.{digits_value}
use Rattle.command_line.specs.Numbers.{IsNumberIn}
use Rattle.nest_top.specs.declared.status.Status.{Status}
use Rattle.nest_top.specs.declared.status.Status.TheVariants.{Ended, Trapped, Limited, Refused, Usage, SourceFault, SinkFault, NoMemory}
use Rattle.nest_top.specs.Texts.{IsTextOf, text_taken}
use Rattle.nest_top.specs.Answers.{AnswersFile, AnswersReading, AreInRange, Causes, Finishes, IsAnswer, IsListingOf, IsOutcomeOf, IsReportOf, IsSummaryOf, finish_of, heading, journey_options, run_of_file, status_of, text_for, text_made}
use Rattle.nest_top.specs.Answers.IsAnswer.{usage, invoked}
use Rattle.nest_text.specs.Files.{IsOfText, scalar_names}
use Rattle.report.specs.Lines.{line_text, listing_text}
use Rattle.report.specs.declared.line.Line.{Line}
use Rattle.journeys.specs.Laws.{IsRunnable}
use Rattle.journeys.proofs.OneJourney.{one-journey}
use Rattle.journeys.proofs.SomeJourney.{some-journey}
use Rattle.nest_grammar.proofs.RuleLaws.{reading-keeps}
use Rattle.listing.proofs.OneListing.{one-listing}
use Rattle.std.specs.List.{flat_map}
use Rattle.nest_top.specs.Laws.{AreI64s, OneAnswer, SomeAnswer, EachHasItsCause}
use Rattle.nest_top.proofs.FileNumberLaws.{are-i64s}
use Rattle.nest_top.proofs.TrapsOnly.{plain_run-finishes}

-- ---- statuses of endings

same-ending : (e d : Ending) → finish_of_ending e ≡ finish_of_ending d → e ≡ d
same-ending ending.Ended ending.Ended h = refl
same-ending ending.Ended (ending.Trapped t) h = absurd (cc)
same-ending ending.Ended ending.Limited h = absurd (cc)
same-ending (ending.Trapped t) ending.Ended h = absurd (cc)
same-ending (ending.Trapped t) (ending.Trapped u) h = cc
same-ending (ending.Trapped t) ending.Limited h = absurd (cc)
same-ending ending.Limited ending.Ended h = absurd (cc)
same-ending ending.Limited (ending.Trapped t) h = absurd (cc)
same-ending ending.Limited ending.Limited h = refl

-- a status that an answer to a file has
abbrev IsOfFile : Status → Type 0
IsOfFile Ended = Unit {0}
IsOfFile Trapped = Unit {0}
IsOfFile Limited = Unit {0}
IsOfFile status = ⊥

of-ending : (e : Ending) → IsOfFile (status_of e)
of-ending ending.Ended = tt
of-ending (ending.Trapped trap) = tt
of-ending ending.Limited = tt

is-ended : (e : Ending) → status_of e ≡ Ended → finish_of_ending e ≡ traces.Done
is-ended ending.Ended h = refl
is-ended (ending.Trapped trap) h = absurd (cc)
is-ended ending.Limited h = absurd (cc)

from-ended : (e : Ending) → finish_of_ending e ≡ traces.Done → status_of e ≡ Ended
from-ended ending.Ended h = refl
from-ended (ending.Trapped trap) h = absurd (cc)
from-ended ending.Limited h = absurd (cc)

is-trapped : (e : Ending) → status_of e ≡ Trapped → (trap : Trap) × (finish_of_ending e ≡ traces.Halted (traces.Trapped trap))
is-trapped ending.Ended h = absurd (cc)
is-trapped (ending.Trapped trap) h = (trap, refl)
is-trapped ending.Limited h = absurd (cc)

from-trapped : (e : Ending) (trap : Trap) → finish_of_ending e ≡ traces.Halted (traces.Trapped trap) → status_of e ≡ Trapped
from-trapped ending.Ended trap h = absurd (cc)
from-trapped (ending.Trapped t) trap h = refl
from-trapped ending.Limited trap h = absurd (cc)

is-limited : (e : Ending) → status_of e ≡ Limited → finish_of_ending e ≡ traces.Limited
is-limited ending.Ended h = absurd (cc)
is-limited (ending.Trapped trap) h = absurd (cc)
is-limited ending.Limited h = refl

from-limited : (e : Ending) → finish_of_ending e ≡ traces.Limited → status_of e ≡ Limited
from-limited ending.Ended h = absurd (cc)
from-limited (ending.Trapped trap) h = absurd (cc)
from-limited ending.Limited h = refl

-- how the answer to a file ended
record EndedSo (mode : Mode) (options : Options) (file : File) (status : Status) : Type 0 where
  ending : Ending
  finished : finish_of_ending ending ≡ finish_of mode options file
  answered : status ≡ status_of ending

ended-so : (mode : Mode) (options : Options) (file : File) (bytes : List ℕ) (status : Status) → AnswersFile mode options file bytes status → EndedSo mode options file status
ended-so Plain options file bytes status is = record { ending = is.ending; finished = is.ended; answered = is.answered }
ended-so Run options file bytes status is = record { ending = is.is.ending; finished = is.is.ended; answered = is.is.answered }
ended-so Check options file bytes status is = record { ending = ending.Ended; finished = refl; answered = is.1 }
ended-so Deps options file bytes status is = record { ending = ending.Ended; finished = refl; answered = is.1 }
ended-so (Gen recipe) options file bytes status is = record { ending = is.ending; finished = is.ended; answered = is.answered }

-- ---- causes

-- two invocations of the same arguments, and what a text reads as, are the same
same-file : {A B : Type 0} (r : Result A B) (f g : A) → r ≡ Ok f → r ≡ Ok g → f ≡ g
same-file r f g one other = let e = sym one ∙ other in cc

no-fault : {A B : Type 0} (r : Result A B) (f : A) (b : B) → r ≡ Ok f → r ≡ Err b → ⊥
no-fault r f b one other = let e = sym one ∙ other in cc

module _ (words : List (List ℕ)) (text : List ℕ) (c : Invocation) (is : IsInvocation words c) where
  -- the invocation and the file of a run are these
  finishes-here : (file : File) → reading (text_for c.mode text) ≡ Ok file → (finish : Finish) → Finishes words text finish → finish_of c.mode c.options file ≡ finish
  finishes-here file reads finish f =
      let same = one_invocation words c f.invocation is f.is in
      let alike = same-file (reading (text_for c.mode text)) file f.file reads (ap (λ (d : Invocation). reading (text_for d.mode text)) same ∙ f.reads) in
      ap (λ (d : Invocation). finish_of d.mode d.options file) same ∙ (ap (finish_of f.invocation.mode f.invocation.options) alike ∙ f.finished)

  -- what the text of another invocation of these arguments reads as
  read-here : (d : Invocation) → IsInvocation words d → reading (text_for c.mode text) ≡ reading (text_for d.mode text)
  read-here d is' = ap (λ (e : Invocation). reading (text_for e.mode text)) (one_invocation words c d is is')

  -- the causes of the answer to a file
  file-causes : (file : File) → reading (text_for c.mode text) ≡ Ok file → (status : Status) → EndedSo c.mode c.options file status → Causes words text status
  file-causes file reads status e = record {
    usage = (λ u. absurd (subst IsOfFile (sym e.answered ∙ u) (of-ending e.ending)), λ none. absurd (none c is));
    refused = (
      λ r. absurd (subst IsOfFile (sym e.answered ∙ r) (of-ending e.ending)),
      λ r. absurd (no-fault (reading (text_for c.mode text)) file r.fault reads (read-here r.invocation r.is ∙ r.reads)),
    );
    ended = (
      λ s. record { invocation = c; is = is; file = file; reads = reads; finished = sym e.finished ∙ is-ended e.ending (sym e.answered ∙ s) },
      λ f. e.answered ∙ from-ended e.ending (e.finished ∙ finishes-here file reads traces.Done f),
    );
    trapped = (
      λ s. let t = is-trapped e.ending (sym e.answered ∙ s) in
          (t.0, record { invocation = c; is = is; file = file; reads = reads; finished = sym e.finished ∙ t.1 }),
      λ f. e.answered ∙ from-trapped e.ending f.0 (e.finished ∙ finishes-here file reads (traces.Halted (traces.Trapped f.0)) f.1),
    );
    limited = (
      λ s. record { invocation = c; is = is; file = file; reads = reads; finished = sym e.finished ∙ is-limited e.ending (sym e.answered ∙ s) },
      λ f. e.answered ∙ from-limited e.ending (e.finished ∙ finishes-here file reads traces.Limited f),
    );
  }

  refused-causes : (fault : TextFault) → reading (text_for c.mode text) ≡ Err fault → (status : Status) → status ≡ Refused → Causes words text status
  refused-causes fault reads status r = record {
    usage = (λ u. let bad : Refused ≡ Usage = sym r ∙ u in absurd (cc), λ none. absurd (none c is));
    refused = (λ s. record { invocation = c; is = is; fault = fault; reads = reads }, λ s. r);
    ended = (λ s. let bad : Refused ≡ Ended = sym r ∙ s in absurd (cc), λ f. absurd (no-fault (reading (text_for c.mode text)) f.file fault (read-here f.invocation f.is ∙ f.reads) reads));
    trapped = (λ s. let bad : Refused ≡ Trapped = sym r ∙ s in absurd (cc), λ f. absurd (no-fault (reading (text_for c.mode text)) f.1.file fault (read-here f.1.invocation f.1.is ∙ f.1.reads) reads));
    limited = (λ s. let bad : Refused ≡ Limited = sym r ∙ s in absurd (cc), λ f. absurd (no-fault (reading (text_for c.mode text)) f.file fault (read-here f.invocation f.is ∙ f.reads) reads));
  }

  invocation-causes : (bytes : List ℕ) (status : Status) (r : Result File TextFault) → reading (text_for c.mode text) ≡ r → AnswersReading c.mode c.options r bytes status → Causes words text status
  invocation-causes bytes status (Ok file) reads answers = file-causes file reads status (ended-so c.mode c.options file bytes status answers)
  invocation-causes bytes status (Err fault) reads answers = refused-causes fault reads status answers.1

usage-causes : (words : List (List ℕ)) (text : List ℕ) → IsNoInvocation words → Causes words text Usage
usage-causes words text none = record {
  usage = (λ e. none, λ e. refl);
  refused = (λ e. absurd (cc), λ r. absurd (none r.invocation r.is));
  ended = (λ e. absurd (cc), λ f. absurd (none f.invocation f.is));
  trapped = (λ e. absurd (cc), λ f. absurd (none f.1.invocation f.1.is));
  limited = (λ e. absurd (cc), λ f. absurd (none f.invocation f.is));
}

-- each status of an answer has its cause
pub causes : EachHasItsCause
causes words text bytes status (usage none) = usage-causes words text none
causes words text bytes status (invoked c is b s answers) = invocation-causes words text c is b s (reading (text_for c.mode text)) refl answers

-- ---- options

same-natural : (m n : ℕ) → pos m ≡ pos n → m ≡ n
same-natural m n e = cc

-- a number that was given lies in its range
number-within : (least most : ℕ) (text : List ℕ) (number : ℤ) → IsNumberIn least most text number → (pos least ≤ℤ number) × (number ≤ℤ pos most)
number-within least most text number is =
    let value = is.value in
    let from = is.from in
    let upto = is.upto in
    (omega (arith, ints, value, from), omega (arith, ints, value, upto))

-- the options of an invocation are in their ranges
pub options-in-range : (words : List (List ℕ)) (c : Invocation) → IsInvocation words c → AreInRange c.options
options-in-range words c is =
    let given = is.found.options in
    let chunk = number-within 1 1024 given.chunk.text c.options.chunk given.chunk.is in
    let sample = number-within 2 64 given.sample.text c.options.sample given.sample.is in
    let value : c.options.steps ≡ digits_value 10 given.steps.text = same-natural _ _ given.steps.is.value in
    let upto = given.steps.is.upto in
    let workers : c.options.workers ≡ digits_value 10 given.workers.text = same-natural _ _ given.workers.is.value in
    let one = given.workers.is.from in
    let most = given.workers.is.upto in
    record { workers_from = omega (arith, one, workers); workers_to = omega (arith, most, workers); chunk_from = chunk.0; chunk_to = chunk.1; sample_from = sample.0; sample_to = sample.1; steps = omega (arith, upto, value) }

-- ---- one answer

abbrev Same : List ℕ → List ℕ → Status → Status → Type 0
Same bytes bytes' status status' = (bytes ≡ bytes') × (status ≡ status')

one-outcome : (file : File) (steps : ℕ) (bytes bytes' : List ℕ) (status status' : Status) → IsOutcomeOf file steps bytes status → IsOutcomeOf file steps bytes' status' → Same bytes bytes' status status'
one-outcome file steps bytes bytes' status status' o p =
    let run = run_of_file file steps in
    let e : o.ending ≡ p.ending = same-ending o.ending p.ending (o.ended ∙ sym p.ended) in
    let runs : o.written.0 ≡ p.written.0 = same-runs run.store.memory o.written.0 p.written.0 o.written.1 p.written.1 in (
      o.written.2
          ∙ ap (λ (rs : List WordRun). outcome_lines (scalar_names file) run.store.scalars rs o.ending run.steps) runs
          ∙ ap (λ (x : Ending). outcome_lines (scalar_names file) run.store.scalars p.written.0 x run.steps) e
          ∙ sym p.written.2,
      o.answered ∙ ap status_of e ∙ sym p.answered,
    )

-- a file has at most one report
one-report : (options : Options) (file : File) (bytes bytes' : List ℕ) (status status' : Status) → IsReportOf options file bytes status → IsReportOf options file bytes' status' → Same bytes bytes' status status'
one-report options file bytes bytes' status status' a b =
    let outcome = one-outcome file options.steps a.outcome b.outcome status status' a.is b.is in
    let told = (one-journey (journey_options options) file a.lines b.lines a.end b.end a.journey b.journey).told in (
      a.written ∙ ap₂ (λ (part : List ℕ) (lines : List Line). part ++ flat_map (line_text (scalar_names file)) lines) outcome.0 told ∙ sym b.written,
      outcome.1,
    )

-- a file has at most one summary
one-summary : (recipe : Recipe) (options : Options) (file : File) (bytes bytes' : List ℕ) (status status' : Status) → IsSummaryOf recipe options file bytes status → IsSummaryOf recipe options file bytes' status' → Same bytes bytes' status status'
one-summary recipe options file bytes bytes' status status' a b =
    let run = run_of_file file options.steps in
    let e : a.ending ≡ b.ending = same-ending a.ending b.ending (a.ended ∙ sym b.ended) in
    let told = (one-journey (journey_options options) file a.lines b.lines a.end b.end a.journey b.journey).told in (
      a.written ∙ ap₂ (λ (x : Ending) (lines : List Line). heading recipe ++ summary x run.steps lines run.store.memory) e told ∙ sym b.written,
      a.answered ∙ ap status_of e ∙ sym b.answered,
    )

-- a file has one listing
one-deps : (options : Options) (file : File) → IsOfText file → (bytes bytes' : List ℕ) → IsListingOf options file bytes → IsListingOf options file bytes' → bytes ≡ bytes'
one-deps options file of bytes bytes' a b =
    let one = one-listing (journey_options options) file of in
    let same : a.0 ≡ b.0 = one.2 a.0 a.1 ∙ sym (one.2 b.0 b.1) in
    a.2 ∙ ap (flat_map (listing_text (scalar_names file))) same ∙ sym b.2

one-file-answer : (mode : Mode) (options : Options) (file : File) → IsOfText file → (bytes bytes' : List ℕ) (status status' : Status) → AnswersFile mode options file bytes status → AnswersFile mode options file bytes' status' → Same bytes bytes' status status'
one-file-answer Plain options file of bytes bytes' status status' a b = one-outcome file options.steps bytes bytes' status status' a b
one-file-answer Run options file of bytes bytes' status status' a b = one-report options file bytes bytes' status status' a b
one-file-answer Check options file of bytes bytes' status status' a b = (a.0 ∙ sym b.0, a.1 ∙ sym b.1)
one-file-answer Deps options file of bytes bytes' status status' a b = (one-deps options file of bytes bytes' a.0 b.0, a.1 ∙ sym b.1)
one-file-answer (Gen recipe) options file of bytes bytes' status status' a b = one-summary recipe options file bytes bytes' status status' a b

one-reading-answer : (mode : Mode) (options : Options) (text : List ℕ) (r : Result File TextFault) → reading text ≡ r → (bytes bytes' : List ℕ) (status status' : Status) → AnswersReading mode options r bytes status → AnswersReading mode options r bytes' status' → Same bytes bytes' status status'
one-reading-answer mode options text (Ok file) reads bytes bytes' status status' a b = one-file-answer mode options file (text, reads) bytes bytes' status status' a b
one-reading-answer mode options text (Err fault) reads bytes bytes' status status' a b = (a.0 ∙ sym b.0, a.1 ∙ sym b.1)

-- arguments and a text have at most one answer
pub one-answer : OneAnswer
one-answer words text bytes bytes' status status' (usage n) (usage m) = (refl, refl)
one-answer words text bytes bytes' status status' (usage n) (invoked d is b s a) = absurd (n d is)
one-answer words text bytes bytes' status status' (invoked c is b s a) (usage n) = absurd (n c is)
one-answer words text bytes bytes' status status' (invoked c is b s a) (invoked d is' b' s' a') =
    let own = text_for c.mode text in
    one-reading-answer c.mode c.options own (reading own) refl b b' s s' a (subst (λ (x : Invocation). AnswersReading x.mode x.options (reading (text_for x.mode text)) b' s') (sym (one_invocation words c d is is')) a')

-- ---- and one at least

some-outcome : (file : File) (steps : ℕ) → (bytes : List ℕ) × (status : Status) × IsOutcomeOf file steps bytes status
some-outcome file steps =
    let run = run_of_file file steps in
    let e = plain_run-finishes (nests_of file) (first_store file) steps in
    let runs = longest-runs run.store.memory in
    (outcome_lines (scalar_names file) run.store.scalars runs.0 e.0 run.steps, status_of e.0, record { ending = e.0; ended = e.1; written = (runs.0, runs.1, refl); answered = refl })

-- a file that a text reads as has a journey, where its numbers are i64s and the options are in their ranges
runnable : (options : Options) (file : File) → IsOfText file → AreInRange options → AreI64s file → IsRunnable (journey_options options) file
runnable options file of range i64s =
    let sample = range.sample_from in
    record {
      keeps = reading-keeps of.0 file of.1;
      numbers = i64s.numbers;
      store = i64s.store;
      sample = omega (arith, ints, sample);
      chunk = range.chunk_from;
      steps = range.steps;
    }

some-file-answer : (mode : Mode) (options : Options) (file : File) → IsOfText file → AreInRange options → (bytes : List ℕ) × (status : Status) × AnswersFile mode options file bytes status
some-file-answer Plain options file of range = some-outcome file options.steps
some-file-answer Run options file of range =
    let o = some-outcome file options.steps in
    let j = some-journey (journey_options options) file (runnable options file of range (are-i64s file of)) in
    (o.0 ++ flat_map (line_text (scalar_names file)) j.0, o.1, record { outcome = o.0; is = o.2; lines = j.0; end = j.1; journey = j.2; written = refl })
some-file-answer Check options file of range = (canonical file, Ended, (refl, refl))
some-file-answer Deps options file of range =
    let one = one-listing (journey_options options) file of in
    (flat_map (listing_text (scalar_names file)) one.0, Ended, ((one.0, one.1, refl), refl))
some-file-answer (Gen recipe) options file of range =
    let run = run_of_file file options.steps in
    let e = plain_run-finishes (nests_of file) (first_store file) options.steps in
    let j = some-journey (journey_options options) file (runnable options file of range (are-i64s file of)) in
    (heading recipe ++ summary e.0 run.steps j.0 run.store.memory, status_of e.0, record { ending = e.0; ended = e.1; lines = j.0; end = j.1; journey = j.2; written = refl; answered = refl })

some-reading-answer : (mode : Mode) (options : Options) (text : List ℕ) (r : Result File TextFault) → reading text ≡ r → AreInRange options → (bytes : List ℕ) × (status : Status) × AnswersReading mode options r bytes status
some-reading-answer mode options text (Ok file) reads range = some-file-answer mode options file (text, reads) range
some-reading-answer mode options text (Err fault) reads range = (refusal_line fault, Refused, (refl, refl))

pub some-answer : SomeAnswer
some-answer words text = elim (invocation_or_none words) [
  | inl i ↦ (
      let own = text_for i.0.mode text in
      let a = some-reading-answer i.0.mode i.0.options own (reading own) refl (options-in-range words i.0 i.1) in
      (a.0, a.1, invoked i.0 i.1 a.0 a.1 a.2))
  | inr none ↦ (usage_line, Usage, usage none)
]

-- ---- what the calls use

-- a status that an answer has
abbrev IsOfAnswer : Status → Type 0
IsOfAnswer SourceFault = ⊥
IsOfAnswer SinkFault = ⊥
IsOfAnswer NoMemory = ⊥
IsOfAnswer status = Unit {0}

of-an-ending : (e : Ending) → IsOfAnswer (status_of e)
of-an-ending ending.Ended = tt
of-an-ending (ending.Trapped trap) = tt
of-an-ending ending.Limited = tt

of-reading : (mode : Mode) (options : Options) (r : Result File TextFault) (bytes : List ℕ) (status : Status) → AnswersReading mode options r bytes status → IsOfAnswer status
of-reading mode options (Ok file) bytes status a = let e = ended-so mode options file bytes status a in subst IsOfAnswer (sym e.answered) (of-an-ending e.ending)
of-reading mode options (Err fault) bytes status a = subst IsOfAnswer (sym a.1) tt

of-answer : (words : List (List ℕ)) (text bytes : List ℕ) (status : Status) → IsAnswer words text bytes status → IsOfAnswer status
of-answer words text bytes status (usage n) = tt
of-answer words text bytes status (invoked c is b s a) = of-reading c.mode c.options (reading (text_for c.mode text)) b s a

-- no answer has the status of a fault
pub answer-no-sink-fault : (words : List (List ℕ)) (text bytes : List ℕ) (status : Status) → IsAnswer words text bytes status → status ≡ SinkFault → ⊥
answer-no-sink-fault words text bytes status a e = subst IsOfAnswer e (of-answer words text bytes status a)

pub answer-no-source-fault : (words : List (List ℕ)) (text bytes : List ℕ) (status : Status) → IsAnswer words text bytes status → status ≡ SourceFault → ⊥
answer-no-source-fault words text bytes status a e = subst IsOfAnswer e (of-answer words text bytes status a)

pub answer-no_memory : (words : List (List ℕ)) (text bytes : List ℕ) (status : Status) → IsAnswer words text bytes status → status ≡ NoMemory → ⊥
answer-no_memory words text bytes status a e = subst IsOfAnswer e (of-answer words text bytes status a)

-- a text that a source may have given
pub text-of : (left : Option (List ℕ)) → (text : List ℕ) × IsTextOf left text
text-of None = ([], tt)
text-of (Some bytes) = (text_taken bytes, refl)

-- arguments that are no invocation have their answer at once, whatever the text
pub usage-answered : (words : List (List ℕ)) (text bytes : List ℕ) (status : Status) → IsNoInvocation words → (bytes ≡ usage_line) × (status ≡ Usage) → IsAnswer words text bytes status
usage-answered words text bytes status none is =
    let at : IsAnswer words text usage_line Usage = usage none in
    subst (λ (b : List ℕ). IsAnswer words text b status) (sym is.0) (subst (λ (s : Status). IsAnswer words text usage_line s) (sym is.1) at)

-- a result's value is also so
pub ok-map : {A E : Type 0} (P Q : A → Type 0) → ((a : A) → P a → Q a) → (r : Result A E) → IfOk r P → IfOk r Q
ok-map P Q go (Ok a) p = go a p
ok-map P Q go (Err e) p = tt

-- so has an invocation that makes its text itself
pub generated-answered : (words : List (List ℕ)) (c : Invocation) (recipe : Recipe) (text bytes : List ℕ) (status : Status) → IsInvocation words c → c.mode ≡ Gen recipe
    → (file : File) → reading (text_made recipe) ≡ Ok file → IsSummaryOf recipe c.options file bytes status → IsAnswer words text bytes status
generated-answered words c recipe text bytes status is gen file reads summed =
    let here : AnswersReading (Gen recipe) c.options (reading (text_made recipe)) bytes status = subst (λ (r : Result File TextFault). AnswersReading (Gen recipe) c.options r bytes status) (sym reads) summed in
    invoked c is bytes status (subst (λ (m : Mode). AnswersReading m c.options (reading (text_for m text)) bytes status) (sym gen) here)
