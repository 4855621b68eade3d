use Rattle.domain.proofs.OrderLaws.{order_is_strict}
use Rattle.domain.proofs.laws.order_is_strict.Goals as goal

pub returns : goal.returns
returns c = order_is_strict
