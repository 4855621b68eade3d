use Rattle.line_fit.proofs.LineLaws.{line-one}
use Rattle.line_fit.proofs.laws.line_is_one.Goals as goal

pub returns : goal.returns
returns c = line-one
