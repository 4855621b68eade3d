use Rattle.follow.proofs.ReorderingLaws.{order-keeps}
use Rattle.follow.proofs.laws.order_keeps.Goals as goal

pub returns : goal.returns
returns c = order-keeps
