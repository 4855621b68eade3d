use Rattle.nest_top.proofs.AnswerLaws.{one-answer}
use Rattle.nest_top.proofs.laws.one_answer.Goals as goal

pub returns : goal.returns
returns c = one-answer
