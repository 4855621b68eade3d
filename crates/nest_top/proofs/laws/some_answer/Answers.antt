use Rattle.nest_top.proofs.AnswerLaws.{some-answer}
use Rattle.nest_top.proofs.laws.some_answer.Goals as goal

pub returns : goal.returns
returns c = some-answer
