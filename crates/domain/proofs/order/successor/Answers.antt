use Rattle.domain.proofs.OriginalLaws.{successor-of}
use Rattle.domain.proofs.order.successor.Goals as goal

pub returns : goal.returns
returns g c = successor-of g.row.D c.args.pred.now c.args.inst.now c.next.result c.next.ensures.table c.next.ensures.next
