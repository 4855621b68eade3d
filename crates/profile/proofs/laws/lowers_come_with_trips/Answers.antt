use Rattle.profile.proofs.BoundsLaws.{lowers-come-with-trips}
use Rattle.profile.proofs.laws.lowers_come_with_trips.Goals as goal

pub returns : goal.returns
returns c = lowers-come-with-trips
