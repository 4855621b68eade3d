use Rattle.profile.proofs.FitLaws.{fit_or_unfit}
use Rattle.profile.proofs.laws.fit_or_unfit.Goals as goal

pub returns : goal.returns
returns c = fit_or_unfit
