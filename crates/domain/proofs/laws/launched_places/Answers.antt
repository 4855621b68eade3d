use Rattle.domain.proofs.CounterLaws.{launched_places}
use Rattle.domain.proofs.laws.launched_places.Goals as goal

pub returns : goal.returns
returns c = launched_places
