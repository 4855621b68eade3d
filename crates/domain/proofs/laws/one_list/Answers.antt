use Rattle.domain.proofs.OrderLaws.{one_list}
use Rattle.domain.proofs.laws.one_list.Goals as goal

pub returns : goal.returns
returns c = one_list
