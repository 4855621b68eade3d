use Rattle.dependence.proofs.ScheduleLaws.{order_kept}
use Rattle.dependence.proofs.laws.order_kept.Goals as goal

pub returns : goal.returns
returns c = order_kept
