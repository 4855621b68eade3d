-- Whole calls: those that end by themselves, and those whose answer was made and put, or wasn't made.
use Rattle.std.proofs.Common.{◌≡◌, subst, ℕ, List, Option, Some, Result, Ok, Err}
use Rattle.std.specs.Prelude.{IfSome}
use Rattle.crew.specs.declared.handed.Handed.{Handed}
use Rattle.nest_top.specs.declared.answer.Answer.{Answer}
use Rattle.nest_top.specs.declared.status.Status.{Status}
use Rattle.nest_top.specs.declared.unanswered.Unanswered.{Unanswered}
use Rattle.nest_top.specs.Texts.{IsTextOf}
use Rattle.nest_top.specs.Answers.{status_of_unanswered}
use Rattle.nest_top.specs.Runs.{IsAlone, IsPut, IsRun, Over}
use Rattle.nest_top.specs.HandedOver.{Gains, HandsOver, IsHandedMade}
use Rattle.nest_top.specs.Calls.{IsCall, IsCallMade}
use Rattle.nest_top.proofs.RunLaws.{answer-made, reason-made, run-none, run-put}
use Rattle.nest_top.proofs.HandedLaws.{alone-handed, put-handed}

module _ {S K : Type 0} (words : List (List ℕ)) (source : Over S) (sink : Over K) where
  -- a call that runs no journey
  pub alone-call : (h : List Handed) (o : Option Status) (status : Status) → o ≡ Some status → IsAlone words source sink o → IsCall words source sink h h status
  alone-call h o status some alone =
      let run : (text : List ℕ) × IsTextOf (source.bytes source.before) text × IsRun words text source sink status =
      subst (λ (x : Option Status). IfSome x (λ s. (text : List ℕ) × IsTextOf (source.bytes source.before) text × IsRun words text source sink s)) some alone.run in
      record { text = run.0; taken = run.1; run = run.2; handed = alone-handed words run.0 h o status some (λ asks. (alone.journey asks).0) }

  module _ (old new : List Handed) (r : Result Answer Unanswered) (call : IsCallMade words source old new r) where
    -- an answer that was put, or a front of it
    pub put-call : (answer : Answer) (status : Status) → r ≡ Ok answer → IsPut sink answer.bytes.items answer.status status → IsCall words source sink old new status
    put-call answer status is put =
        let made = answer-made words source call.text r answer is call.made in
        let gains : Gains (HandsOver words call.text) old new = subst (λ (x : Result Answer Unanswered). IsHandedMade words call.text old new x) is call.handed in
        record {
          text = call.text;
          taken = call.taken;
          run = run-put words call.text source sink answer.bytes.items answer.status status made put;
          handed = put-handed words call.text old new source sink answer.bytes.items answer.status status made put gains;
        }

    -- no answer
    pub none-call : (why : Unanswered) → r ≡ Err why → sink.after ≡ sink.before → IsCall words source sink old new (status_of_unanswered why)
    none-call why is same = record {
      text = call.text;
      taken = call.taken;
      run = run-none words call.text source sink why (reason-made words source call.text r why is call.made) same;
      handed = subst (λ (x : Result Answer Unanswered). IsHandedMade words call.text old new x) is call.handed;
    }
