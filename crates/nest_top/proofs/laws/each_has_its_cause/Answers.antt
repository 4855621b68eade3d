use Rattle.nest_top.proofs.AnswerLaws.{causes}
use Rattle.nest_top.proofs.laws.each_has_its_cause.Goals as goal

pub returns : goal.returns
returns c = causes
