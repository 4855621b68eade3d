use Rattle.journeys.proofs.SomeJourney.{some-journey}
use Rattle.journeys.proofs.laws.some_journey.Goals as goal

pub returns : goal.returns
returns c = some-journey
