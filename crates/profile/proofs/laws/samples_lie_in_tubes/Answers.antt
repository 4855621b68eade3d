use Rattle.profile.proofs.FitLaws.{samples-lie-in-tubes}
use Rattle.profile.proofs.laws.samples_lie_in_tubes.Goals as goal

pub returns : goal.returns
returns c = samples-lie-in-tubes
