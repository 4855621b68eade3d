-- What a call hands to its crew, from what its journey hands over.
use Rattle.std.proofs.Common.{◌≡◌, ◌∙◌, refl, ap, sym, subst, ℕ, List, [], ◌++◌, Option, Some, None, Result, Ok, Err, true, inl, inr, ◌⊎◌}
use Rattle.std.specs.Prelude.{IsErrAnd}
use Rattle.std.specs.Result.{IsErr}
use Rattle.std.specs.declared.alloc.AllocError.{AllocError}
use Rattle.std.proofs.lemmas.List.{append-nil}
use Rattle.nest_lang.specs.Traces.{cut_of}
use Rattle.nest_lang.specs.Runs.{finish_of_ending}
use Rattle.nest_grammar.specs.declared.fault.TextFault.{TextFault}
use Rattle.nest_grammar.specs.declared.file.File.{File}
use Rattle.nest_grammar.specs.Contents.{reading}
use Rattle.crew.specs.declared.handed.Handed.{Handed}
use Rattle.report.specs.declared.journey.Journey.{Journey}
use Rattle.report.specs.declared.journey.Options.{Options as JourneyOptions}
use Rattle.controller.specs.Courses.{JourneyHanded}
use Rattle.command_line.specs.declared.invocation.Invocation.{Invocation}
use Rattle.command_line.specs.declared.invocation.Options.{Options}
use Rattle.command_line.specs.Invocations.{IsInvocation}
use Rattle.command_line.proofs.FoundWordLaws.{one_invocation}
use Rattle.nest_top.specs.declared.answer.Answer.{Answer}
use Rattle.nest_top.specs.declared.status.Status.{Status}
use Rattle.nest_top.specs.declared.status.Status.TheVariants.{Ended, Trapped, Limited, Refused, Usage, SourceFault, SinkFault, NoMemory}
use Rattle.nest_top.specs.declared.unanswered.Unanswered.{Unanswered}
use Rattle.nest_top.specs.declared.unanswered.Unanswered.TheVariants as unanswered
use Rattle.nest_top.specs.Answers.{AsksForJourney, IsAnswer, has_journey, journey_options, text_for, unanswered_by}
use Rattle.nest_top.specs.HandedOver.{AsksFor, FileHanded, Gains, GainsBegun, GainsJourney, HandsOver, HandsSome, IsHanded, IsHandedMade, ReadingHanded}
use Rattle.nest_top.specs.HandedOver.HandsOver.{nothing, journey}
use Rattle.nest_top.specs.HandedOver.HandsSome.{nothing as none_yet, begun, whole}
use Rattle.nest_top.specs.Runs.{IsAnswerMade, IsPut, Over}
use Rattle.nest_top.proofs.AnswerLaws.{answer-no_memory, answer-no-source-fault}

unchanged : (old new : List Handed) → new ≡ old → new ≡ old ++ []
unchanged old new same = same ∙ sym (append-nil old)

-- ---- of a file

module _ (options : Options) (file : File) (old new : List Handed) where
  pub journey-gains : (o : JourneyOptions) (r : Result Journey AllocError) (j : Journey) → r ≡ Ok j → o ≡ journey_options options → JourneyHanded o file old new r → GainsJourney options file old new
  journey-gains o r j is same handed =
      let h : JourneyHanded (journey_options options) file old new (Ok j) = subst (λ (x : JourneyOptions). JourneyHanded x file old new (Ok j)) same (subst (λ (x : Result Journey AllocError). JourneyHanded o file old new x) is handed) in
      record { list = h.0; gained = h.1; lines = j.lines.items; end = cut_of j.state h.2.0 j.steps (finish_of_ending j.ending); hands = h.2.1 }

  pub journey-begun : (o : JourneyOptions) (r : Result Journey AllocError) (e : AllocError) → r ≡ Err e → o ≡ journey_options options → JourneyHanded o file old new r → GainsBegun options file old new
  journey-begun o r e is same handed =
      let h : JourneyHanded (journey_options options) file old new (Err e) = subst (λ (x : JourneyOptions). JourneyHanded x file old new (Err e)) same (subst (λ (x : Result Journey AllocError). JourneyHanded o file old new x) is handed) in
      record { list = h.0; gained = h.1; hands = h.2 }

  -- memory was wanting on the way
  pub wanting-file : (r : Result Answer AllocError) → IsErr r → GainsJourney options file old new ⊎ GainsBegun options file old new → FileHanded options file old new r
  wanting-file (Ok answer) bad g = absurd (cc)
  wanting-file (Err e) is g = g

  pub wanting-reading : (read : Result File TextFault) → read ≡ Ok file → (r : Result Answer AllocError) → IsErr r → GainsJourney options file old new ⊎ GainsBegun options file old new → ReadingHanded options read old new r
  wanting-reading read is (Ok answer) bad g = absurd (cc)
  wanting-reading read is (Err e) wrong g = subst (λ (x : Result File TextFault). ReadingHanded options x old new (Err e)) (sym is) (inr g)

  -- a file's journey is that of what its text reads as
  pub file-handed : (r : Result File TextFault) → r ≡ Ok file → (result : Result Answer AllocError) → FileHanded options file old new result → ReadingHanded options r old new result
  file-handed r is (Ok answer) handed = subst (λ (x : Result File TextFault). ReadingHanded options x old new (Ok answer)) (sym is) handed
  file-handed r is (Err e) handed = subst (λ (x : Result File TextFault). ReadingHanded options x old new (Err e)) (sym is) (inr handed)

-- nothing was handed over before the journey began
pub not-begun : (options : Options) (h : List Handed) (read : Result File TextFault) (r : Result Answer AllocError) → IsErr r → ReadingHanded options read h h r
not-begun options h (Ok file) (Ok answer) bad = absurd (cc)
not-begun options h (Ok file) (Err e) is = inl refl
not-begun options h (Err fault) r is = refl

-- a text with a fault has no journey
pub fault-handed : (options : Options) (h : List Handed) (read : Result File TextFault) (fault : TextFault) → read ≡ Err fault → (r : Result Answer AllocError) → ReadingHanded options read h h r
fault-handed options h read fault is r = subst (λ (x : Result File TextFault). ReadingHanded options x h h r) (sym is) refl

-- ---- of a call

-- nothing was handed over
pub nothing-handed : (words : List (List ℕ)) (text : List ℕ) (why : Unanswered) (h : List Handed) → IsHanded words text (Rattle.nest_top.specs.Answers.status_of_unanswered why) h h
nothing-handed words text unanswered.SourceFault h = refl
nothing-handed words text unanswered.NoMemory h = record { list = []; gained = unchanged h h refl; is = none_yet }

module _ (words : List (List ℕ)) (text : List ℕ) (old new : List Handed) where
  -- a result that says why
  pub none-handed : (r : Result Answer Unanswered) (why : Unanswered) → IsErrAnd r (λ e. e ≡ why) → IsHanded words text (Rattle.nest_top.specs.Answers.status_of_unanswered why) old new → IsHandedMade words text old new r
  none-handed (Ok answer) why bad handed = absurd bad
  none-handed (Err e) why same handed = subst (λ (w : Unanswered). IsHandedMade words text old new (Err w)) (sym same) handed

  module _ (c : Invocation) (is : IsInvocation words c) (has : has_journey c.mode ≡ true) where
    -- a text with a fault has no journey
    no-journey : (fault : TextFault) → reading (text_for c.mode text) ≡ Err fault → (i : Invocation) (file : File) → AsksFor words text i file → ⊥
    no-journey fault reads i file asks =
        let same = ap (λ (d : Invocation). reading (text_for d.mode text)) (one_invocation words i c asks.is is) in
        let bad : Ok file ≡ Err fault = sym asks.reads ∙ (same ∙ reads) in
        cc

    whole-handed : (file : File) → reading (text_for c.mode text) ≡ Ok file → GainsJourney c.options file old new → Gains (HandsOver words text) old new
    whole-handed file reads g =
        record { list = g.list; gained = g.gained; is = journey c file (record { is = is; has = has; reads = reads }) g.lines g.end g.list g.hands }

    pub answer-handed : (r : Result File TextFault) (answer : Answer) → reading (text_for c.mode text) ≡ r → ReadingHanded c.options r old new (Ok answer) → Gains (HandsOver words text) old new
    answer-handed (Ok file) answer reads g = whole-handed file reads g
    answer-handed (Err fault) answer reads same = record { list = []; gained = unchanged old new same; is = nothing (no-journey fault reads) }

    pub wanting-handed : (r : Result File TextFault) (e : AllocError) → reading (text_for c.mode text) ≡ r → ReadingHanded c.options r old new (Err e) → Gains (HandsSome words text) old new
    wanting-handed (Ok file) e reads (inl same) = record { list = []; gained = unchanged old new same; is = none_yet }
    wanting-handed (Ok file) e reads (inr (inl g)) = let all = whole-handed file reads g in record { list = all.list; gained = all.gained; is = whole all.list all.is }
    wanting-handed (Ok file) e reads (inr (inr g)) =
        record { list = g.list; gained = g.gained; is = begun c file (record { is = is; has = has; reads = reads }) g.list g.hands }
    wanting-handed (Err fault) e reads same = record { list = []; gained = unchanged old new same; is = none_yet }

  -- a status that is neither a fault of the source nor want of memory
  pub status-handed : (status : Status) → (status ≡ SourceFault → ⊥) → (status ≡ NoMemory → ⊥) → Gains (HandsOver words text) old new → IsHanded words text status old new
  status-handed Ended off not g = g
  status-handed Trapped off not g = g
  status-handed Limited off not g = g
  status-handed Refused off not g = g
  status-handed Usage off not g = g
  status-handed SinkFault off not g = g
  status-handed SourceFault off not g = absurd (off refl)
  status-handed NoMemory off not g = absurd (not refl)

  -- an answer that was put
  pub put-handed : {S K : Type 0} (source : Over S) (sink : Over K) (bytes : List ℕ) (answered status : Status) → IsAnswerMade words text source bytes answered → IsPut sink bytes answered status → Gains (HandsOver words text) old new → IsHanded words text status old new
  put-handed source sink bytes answered status made put g =
      elim put.put [
        | inl is ↦ status-handed status (λ e. answer-no-source-fault words text bytes answered made.answer (sym is.0 ∙ e)) (λ e. answer-no_memory words text bytes answered made.answer (sym is.0 ∙ e)) g
        | inr is ↦ subst (λ (s : Status). IsHanded words text s old new) (sym is.0) g
      ]

-- a call that runs no journey hands nothing over
pub alone-handed : (words : List (List ℕ)) (text : List ℕ) (h : List Handed) (o : Option Status) (status : Status) → o ≡ Some status → (AsksForJourney words → (o ≡ None) ⊎ (o ≡ Some NoMemory))
    → IsHanded words text status h h
alone-handed words text h o status some asked = by status refl
  where
    never : (s : Status) → status ≡ s → (s ≡ NoMemory → ⊥) → AsksForJourney words → ⊥
    never s is not asks = elim (asked asks) [
      | inl e ↦ (let bad : Some status ≡ None = sym some ∙ e in cc)
      | inr e ↦ (let same : status ≡ NoMemory = only status NoMemory (sym some ∙ e) in not (sym is ∙ same))
    ]
      where
        only : (a b : Status) → Some a ≡ Some b → a ≡ b
        only a b e = cc

    nothing-over : (s : Status) → status ≡ s → (s ≡ NoMemory → ⊥) → Gains (HandsOver words text) h h
    nothing-over s is not =
        record { list = []; gained = unchanged h h refl; is = nothing (λ i file asks. never s is not (record { invocation = i; is = asks.is; has = asks.has })) }

    by : (s : Status) → status ≡ s → IsHanded words text s h h
    by Ended is = nothing-over Ended is (λ e. absurd (cc))
    by Trapped is = nothing-over Trapped is (λ e. absurd (cc))
    by Limited is = nothing-over Limited is (λ e. absurd (cc))
    by Refused is = nothing-over Refused is (λ e. absurd (cc))
    by Usage is = nothing-over Usage is (λ e. absurd (cc))
    by SinkFault is = nothing-over SinkFault is (λ e. absurd (cc))
    by SourceFault is = refl
    by NoMemory is = nothing-handed words text unanswered.NoMemory h
