-- Calls: what a call of the program does to its source, its sink and its crew, all of one text.
use Rattle.std.specs.Prelude.{ℕ, List, Result}
use Rattle.crew.specs.declared.handed.Handed.{Handed}
use Rattle.nest_top.specs.declared.answer.Answer.{Answer}
use Rattle.nest_top.specs.declared.status.Status.{Status}
use Rattle.nest_top.specs.declared.unanswered.Unanswered.{Unanswered}
use Rattle.nest_top.specs.Texts.{IsTextOf}
use Rattle.nest_top.specs.Runs.{IsMade, IsRun, Over}
use Rattle.nest_top.specs.HandedOver.{IsHanded, IsHandedMade}

-- `IsCall words source sink old new status`: a call with these arguments did this to its source, its sink and its
-- crew's list, and went so. Its text is that of the source, where the source tells its bytes; the answer is that of this
-- text, and what was handed over is the record of its journey.
pub record IsCall {S K : Type 0} (words : List (List ℕ)) (source : Over S) (sink : Over K) (old new : List Handed) (status : Status) : Type 0 where
  pub text : List ℕ
  pub taken : IsTextOf (source.bytes source.before) text
  pub run : IsRun words text source sink status
  pub handed : IsHanded words text status old new

-- the same where an answer was made, or none was, and nothing was put into the sink
pub record IsCallMade {S : Type 0} (words : List (List ℕ)) (source : Over S) (old new : List Handed) (result : Result Answer Unanswered) : Type 0 where
  pub text : List ℕ
  pub taken : IsTextOf (source.bytes source.before) text
  pub made : IsMade words text source result
  pub handed : IsHandedMade words text old new result
