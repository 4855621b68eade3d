use Rattle.journeys.proofs.OneJourney.{one-journey, one-nest-journey}
use Rattle.journeys.proofs.laws.one_journey.Goals as goal

pub returns : goal.returns
returns c = record { nest = one-nest-journey; file = one-journey }
