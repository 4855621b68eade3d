use Rattle.nest_lang.proofs.SizeLaws.{steps-within}
use Rattle.nest_lang.proofs.laws.steps_are_within_statements.Goals as goal

pub returns : goal.returns
returns c = steps-within
