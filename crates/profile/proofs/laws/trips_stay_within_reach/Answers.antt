use Rattle.profile.proofs.TripLaws.{trips-stay-within-reach}
use Rattle.profile.proofs.laws.trips_stay_within_reach.Goals as goal

pub returns : goal.returns
returns c = trips-stay-within-reach
