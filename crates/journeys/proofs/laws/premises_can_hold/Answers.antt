use Rattle.journeys.proofs.PremiseLaws.{premises-can-meet}
use Rattle.journeys.proofs.laws.premises_can_hold.Goals as goal

pub returns : goal.returns
returns c = premises-can-meet
