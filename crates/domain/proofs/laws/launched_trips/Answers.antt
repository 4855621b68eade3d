use Rattle.domain.proofs.LaunchedLaws.{launched_trips}
use Rattle.domain.proofs.laws.launched_trips.Goals as goal

pub returns : goal.returns
returns c = launched_trips
