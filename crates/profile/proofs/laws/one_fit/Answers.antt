use Rattle.profile.proofs.OneFitLaws.{one-fit}
use Rattle.profile.proofs.laws.one_fit.Goals as goal

pub returns : goal.returns
returns c = one-fit
