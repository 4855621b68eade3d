use Rattle.profile.proofs.OneUnfitLaws.{one-first-unfit}
use Rattle.profile.proofs.laws.one_first_unfit.Goals as goal

pub returns : goal.returns
returns c = one-first-unfit
