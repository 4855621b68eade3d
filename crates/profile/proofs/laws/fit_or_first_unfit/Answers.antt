use Rattle.profile.proofs.SomeFitLaws.{fit-or-first-unfit}
use Rattle.profile.proofs.laws.fit_or_first_unfit.Goals as goal

pub returns : goal.returns
returns c = fit-or-first-unfit
