use Rattle.follow_chunk.proofs.PremiseLaws.{premises-can-hold}
use Rattle.follow_chunk.proofs.laws.premises_can_hold.Goals as goal

pub returns : goal.returns
returns c = premises-can-hold
