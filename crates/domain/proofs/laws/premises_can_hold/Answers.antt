use Rattle.domain.proofs.OrderLaws.{premises_can_hold}
use Rattle.domain.proofs.laws.premises_can_hold.Goals as goal

pub returns : goal.returns
returns c = premises_can_hold
