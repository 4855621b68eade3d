use Rattle.compare.proofs.PremiseLaws.{premises_can_hold}
use Rattle.compare.proofs.laws.premises_can_hold.Goals as goal

pub returns : goal.returns
returns c = premises_can_hold
