use Rattle.line_fit.proofs.LineLaws.{fit-or-unfit}
use Rattle.line_fit.proofs.laws.fit_or_unfit.Goals as goal

pub returns : goal.returns
returns c = fit-or-unfit
