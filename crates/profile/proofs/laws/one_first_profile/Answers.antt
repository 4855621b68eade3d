use Rattle.profile.proofs.OneProfile.{one-profile}
use Rattle.profile.proofs.laws.one_first_profile.Goals as goal

pub returns : goal.returns
returns c = one-profile
