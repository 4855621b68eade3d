use Rattle.line_fit.proofs.SomeFit.{fit-or-reason}
use Rattle.line_fit.proofs.laws.fit_or_reason.Goals as goal

pub returns : goal.returns
returns c = fit-or-reason
