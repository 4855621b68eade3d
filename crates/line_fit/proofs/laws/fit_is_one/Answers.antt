use Rattle.line_fit.proofs.LineLaws.{fit-one}
use Rattle.line_fit.proofs.laws.fit_is_one.Goals as goal

pub returns : goal.returns
returns c = fit-one
