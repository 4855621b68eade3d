-- Calls that made an answer and put it into the sink, and calls that made none.
use Rattle.std.proofs.Common.{◌≡◌, ◌∙◌, refl, ap, sym, subst, ℕ, ◌≤◌, List, Option, Some, Result, Ok, Err, true, false, inl, inr, arith}
use Rattle.std.specs.Prelude.{IsErrAnd}
use Rattle.nest_io.specs.Faults.{Rose}
use Rattle.nest_io.specs.Bytes.{Appends, AppendsFront}
use Rattle.nest_io.specs.declared.refusals.ReadEnd.{ReadEnd}
use Rattle.nest_io.specs.declared.refusals.ReadEnd.TheVariants as end
use Rattle.command_line.specs.declared.invocation.Invocation.{Invocation}
use Rattle.command_line.specs.declared.invocation.Mode.{Mode}
use Rattle.command_line.specs.declared.invocation.Mode.TheVariants.{Plain, Run, Check, Deps, Gen}
use Rattle.command_line.specs.declared.recipe.Recipe.{Recipe}
use Rattle.command_line.specs.Invocations.{IsInvocation, IsNoInvocation, usage_line}
use Rattle.command_line.proofs.FoundWordLaws.{one_invocation}
use Rattle.nest_top.specs.declared.answer.Answer.{Answer}
use Rattle.nest_top.specs.declared.status.Status.{Status}
use Rattle.nest_top.specs.declared.status.Status.TheVariants.{SinkFault, Usage}
use Rattle.nest_top.specs.declared.unanswered.Unanswered.{Unanswered}
use Rattle.nest_top.specs.declared.unanswered.Unanswered.TheVariants as unanswered
use Rattle.nest_top.specs.Texts.{IsRead, IsTextOf}
use Rattle.nest_top.specs.Answers.{AsksForJourney, IsAnswer, TakesText, has_journey, status_of_unanswered, text_for, unanswered_by}
use Rattle.nest_top.specs.Runs.{IsAlone, IsAnswerMade, IsMade, IsMadeAlone, IsNoneMade, IsPut, IsRun, Over}
use Rattle.nest_top.proofs.AnswerLaws.{causes, answer-no_memory, answer-no-sink-fault, answer-no-source-fault, text-of, usage-answered}

-- ---- modes

-- arguments of a mode without a journey don't ask for one
pub asks-not : (words : List (List ℕ)) (c : Invocation) → IsInvocation words c → has_journey c.mode ≡ false → AsksForJourney words → ⊥
asks-not words c is off asks =
    let same = ap (λ (d : Invocation). has_journey d.mode) (one_invocation words c asks.invocation is asks.is) in
    let bad : false ≡ true = sym off ∙ (same ∙ asks.has) in
    cc

-- a mode without a journey takes the text of the source, and answers to it
pub takes-text : (mode : Mode) → has_journey mode ≡ false → TakesText mode
takes-text Plain off = tt
takes-text Run off = absurd (cc)
takes-text Check off = tt
takes-text Deps off = tt
takes-text (Gen recipe) off = absurd (cc)

pub text-taken : (mode : Mode) (text : List ℕ) → TakesText mode → text_for mode text ≡ text
text-taken Plain text takes = refl
text-taken Run text takes = refl
text-taken Check text takes = refl
text-taken Deps text takes = refl
text-taken (Gen recipe) text takes = absurd takes

-- ---- answers that were made, and reasons why none was

module _ {S : Type 0} (words : List (List ℕ)) (source : Over S) where
  -- arguments that are no invocation have the usage line
  pub usage-made : IsNoInvocation words → source.after ≡ source.before → (bytes : List ℕ) (status : Status) → (bytes ≡ usage_line) × (status ≡ Usage)
      → ((text : List ℕ) × IsTextOf (source.bytes source.before) text × IsAnswerMade words text source bytes status) × (AsksForJourney words → ⊥)
  usage-made none same bytes status is =
      let t = text-of (source.bytes source.before) in (
        (
          t.0,
          t.1,
          record {
            answer = usage-answered words t.0 bytes status none is;
            unread = λ nothing. same;
            read = λ invocation is'. absurd (none invocation is');
            counts = subst (λ (x : S). source.faults source.before ≤ source.faults x) (sym same) (omega arith);
          },
        ),
        λ asks. none asks.invocation asks.is,
      )

  module _ (c : Invocation) (is : IsInvocation words c) (takes : TakesText c.mode) where
    -- an invocation that takes the text of the source has its answer
    pub text-made : (text bytes : List ℕ) (status : Status) → IsAnswer words text bytes status → IsRead (source.bytes source.before) (source.bytes source.after) → source.faults source.before ≤ source.faults source.after
        → IsAnswerMade words text source bytes status
    text-made text bytes status answer read counts = record { answer = answer; unread = λ nothing. absurd (nothing c is takes); read = λ invocation is' takes'. read; counts = counts }

    -- the source failed, or memory was wanting
    pub unread-made : (e : ReadEnd) → (e ≡ end.Fault → Rose (source.faults source.before) (source.faults source.after)) → source.faults source.before ≤ source.faults source.after → IsNoneMade words source (unanswered_by e)
    unread-made end.Fault rose counts = record { fault = λ w. rose refl; unread = λ nothing. absurd (nothing c is takes); counts = counts }
    unread-made end.NoMemory rose counts = record { fault = λ w. absurd (cc); unread = λ nothing. absurd (nothing c is takes); counts = counts }

    pub wanting-made : source.faults source.before ≤ source.faults source.after → IsNoneMade words source unanswered.NoMemory
    wanting-made counts = record { fault = λ w. absurd (cc); unread = λ nothing. absurd (nothing c is takes); counts = counts }

  -- one that makes its text itself takes nothing
  pub nothing-taken : (c : Invocation) (recipe : Recipe) → IsInvocation words c → c.mode ≡ Gen recipe → source.after ≡ source.before → (text bytes : List ℕ) (status : Status) → IsAnswer words text bytes status
      → IsAnswerMade words text source bytes status
  nothing-taken c recipe is gen same text bytes status answer = record {
    answer = answer;
    unread = λ nothing. same;
    read = λ d is' takes. absurd (subst TakesText (ap (λ (x : Invocation). x.mode) (one_invocation words d c is' is) ∙ gen) takes);
    counts = subst (λ (x : S). source.faults source.before ≤ source.faults x) (sym same) (omega arith);
  }

  -- memory was wanting before the source was read
  pub wanting-first : source.after ≡ source.before → IsNoneMade words source unanswered.NoMemory
  wanting-first same = record { fault = λ w. absurd (cc); unread = λ nothing. same; counts = subst (λ (x : S). source.faults source.before ≤ source.faults x) (sym same) (omega arith) }

  -- a result that is an answer
  pub answer-made : (text : List ℕ) (r : Result Answer Unanswered) (a : Answer) → r ≡ Ok a → IsMade words text source r → IsAnswerMade words text source a.bytes.items a.status
  answer-made text r a is made = subst (λ (x : Result Answer Unanswered). IsMade words text source x) is made

  pub reason-made : (text : List ℕ) (r : Result Answer Unanswered) (why : Unanswered) → r ≡ Err why → IsMade words text source r → IsNoneMade words source why
  reason-made text r why is made = subst (λ (x : Result Answer Unanswered). IsMade words text source x) is made

  pub answer-alone : (r : Result (Option Answer) Unanswered) (o : Option Answer) (a : Answer) → r ≡ Ok o → o ≡ Some a → IsMadeAlone words source r
      → ((text : List ℕ) × IsTextOf (source.bytes source.before) text × IsAnswerMade words text source a.bytes.items a.status) × (AsksForJourney words → ⊥)
  answer-alone r o a is some made =
      subst (λ (x : Option Answer). IsMadeAlone words source (Ok x)) some (subst (λ (x : Result (Option Answer) Unanswered). IsMadeAlone words source x) is made)

  pub reason-alone : (r : Result (Option Answer) Unanswered) (why : Unanswered) → r ≡ Err why → IsMadeAlone words source r
      → IsNoneMade words source why × (AsksForJourney words → (why ≡ unanswered.NoMemory) × (source.after ≡ source.before))
  reason-alone r why is made = subst (λ (x : Result (Option Answer) Unanswered). IsMadeAlone words source x) is made

  -- a result that says why
  pub none-made : (text : List ℕ) (r : Result Answer Unanswered) (why : Unanswered) → IsErrAnd r (λ e. e ≡ why) → IsNoneMade words source why → IsMade words text source r
  none-made text (Ok answer) why bad made = absurd bad
  none-made text (Err e) why same made = subst (λ (w : Unanswered). IsNoneMade words source w) (sym same) made

  pub none-alone : (r : Result (Option Answer) Unanswered) (why : Unanswered) → IsErrAnd r (λ e. e ≡ why) → IsNoneMade words source why → (AsksForJourney words → ⊥) → IsMadeAlone words source r
  none-alone (Ok answer) why bad made off = absurd bad
  none-alone (Err e) why same made off = (subst (λ (w : Unanswered). IsNoneMade words source w) (sym same) made, λ asks. absurd (off asks))

-- ---- calls

module _ {S K : Type 0} (words : List (List ℕ)) (text : List ℕ) (source : Over S) (sink : Over K) where
  -- an answer that was put
  answer-put : (bytes : List ℕ) (status : Status) → IsAnswerMade words text source bytes status → Appends (sink.bytes sink.before) (sink.bytes sink.after) bytes → sink.faults sink.before ≤ sink.faults sink.after → IsRun words text source sink status
  answer-put bytes status made put counts =
      record {
        answer = λ answered. (bytes, made.answer, causes words text bytes status made.answer, put);
        source_fault = λ e. absurd (answer-no-source-fault words text bytes status made.answer e);
        sink_fault = λ e. absurd (answer-no-sink-fault words text bytes status made.answer e);
        no_memory = λ e. absurd (answer-no_memory words text bytes status made.answer e);
        unread = made.unread;
        read = λ invocation is takes reads. made.read invocation is takes;
        source_counts = made.counts;
        sink_counts = counts;
      }

  -- an answer of which a front was put
  front-put : (bytes : List ℕ) (status : Status) → IsAnswerMade words text source bytes status → Rose (sink.faults sink.before) (sink.faults sink.after) → AppendsFront (sink.bytes sink.before) (sink.bytes sink.after) bytes → sink.faults sink.before ≤ sink.faults sink.after → IsRun words text source sink SinkFault
  front-put bytes status made rose front counts =
      record {
        answer = λ answered. absurd answered;
        source_fault = λ e. absurd (cc);
        sink_fault = λ e. (rose, (bytes, status, made.answer, front));
        no_memory = λ e. absurd (cc);
        unread = made.unread;
        read = λ invocation is takes reads. made.read invocation is takes;
        source_counts = made.counts;
        sink_counts = counts;
      }

  pub run-put : (bytes : List ℕ) (answered status : Status) → IsAnswerMade words text source bytes answered → IsPut sink bytes answered status → IsRun words text source sink status
  run-put bytes answered status made put = elim put.put [
    | inl whole ↦ subst (λ (s : Status). IsRun words text source sink s) (sym whole.0) (answer-put bytes answered made whole.1 put.counts)
    | inr front ↦ subst (λ (s : Status). IsRun words text source sink s) (sym front.0) (front-put bytes answered made front.1 front.2 put.counts)
  ]

  -- no answer
  pub run-none : (why : Unanswered) → IsNoneMade words source why → sink.after ≡ sink.before → IsRun words text source sink (status_of_unanswered why)
  run-none why made same =
      by why refl
    where
      counts : sink.faults sink.before ≤ sink.faults sink.after
      counts = subst (λ (k : K). sink.faults sink.before ≤ sink.faults k) (sym same) (omega arith)

      by : (w : Unanswered) → why ≡ w → IsRun words text source sink (status_of_unanswered w)
      by unanswered.SourceFault is = record {
        answer = λ answered. absurd answered;
        source_fault = λ e. (made.fault is, same);
        sink_fault = λ e. absurd (cc);
        no_memory = λ e. absurd (cc);
        unread = made.unread;
        read = λ invocation is takes reads. absurd reads;
        source_counts = made.counts;
        sink_counts = counts;
      }
      by unanswered.NoMemory is = record {
        answer = λ answered. absurd answered;
        source_fault = λ e. absurd (cc);
        sink_fault = λ e. absurd (cc);
        no_memory = λ e. same;
        unread = made.unread;
        read = λ invocation is takes reads. absurd reads;
        source_counts = made.counts;
        sink_counts = counts;
      }

-- a call without a journey to which no answer was made
module _ {S K : Type 0} (words : List (List ℕ)) (source : Over S) (sink : Over K) where
  pub alone-none : (why : Unanswered) (status : Status) → status ≡ status_of_unanswered why
      → IsNoneMade words source why × (AsksForJourney words → (why ≡ unanswered.NoMemory) × (source.after ≡ source.before)) → sink.after ≡ sink.before → IsAlone words source sink (Some status)
  alone-none why status is made same =
      let t = text-of (source.bytes source.before) in
      record {
        run = (t.0, t.1, subst (λ (s : Status). IsRun words t.0 source sink s) (sym is) (run-none words t.0 source sink why made.0 same));
        none = λ e. absurd (cc);
        journey = λ asks. let wanting = made.1 asks in (inr (ap Some (is ∙ ap status_of_unanswered wanting.0)), wanting.1, same);
      }
