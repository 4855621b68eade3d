use Rattle.journeys.proofs.OneLaunched.{one-launched}
use Rattle.journeys.proofs.BegunJourneyLaws.{begun-goes_on}
use Rattle.journeys.proofs.laws.launches_are_one.Goals as goal

pub returns : goal.returns
returns c = record { one = one-launched; goes_on = begun-goes_on }
