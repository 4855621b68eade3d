use Rattle.line_fit.proofs.LineLaws.{coefficient-one}
use Rattle.line_fit.proofs.laws.coefficient_is_one.Goals as goal

pub returns : goal.returns
returns c = coefficient-one
