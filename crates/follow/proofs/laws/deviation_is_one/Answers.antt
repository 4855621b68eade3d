use Rattle.follow.proofs.DeviatingLaws.{deviation-is-one}
use Rattle.follow.proofs.laws.deviation_is_one.Goals as goal

pub returns : goal.returns
returns c = deviation-is-one
