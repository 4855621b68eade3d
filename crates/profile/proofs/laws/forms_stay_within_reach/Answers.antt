use Rattle.profile.proofs.FormReachLaws.{forms-stay-within-reach}
use Rattle.profile.proofs.laws.forms_stay_within_reach.Goals as goal

pub returns : goal.returns
returns c = forms-stay-within-reach
