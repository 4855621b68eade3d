use Rattle.follow.proofs.OriginalOrderLaws.{original-order}
use Rattle.follow.proofs.TurnInstanceLaws.{planned-some}
use Rattle.follow.proofs.FirstBlockLaws.{planned-first}
use Rattle.follow.proofs.FindingLaws.{planned-by-instance}
use Rattle.follow.proofs.laws.planned_in_order.Goals as goal

pub returns-clause-ordered : goal.returns-clause-ordered
returns-clause-ordered c = original-order

pub returns-clause-some : goal.returns-clause-some
returns-clause-some c = planned-some

pub returns-clause-first : goal.returns-clause-first
returns-clause-first c = planned-first

pub returns-clause-each : goal.returns-clause-each
returns-clause-each c = planned-by-instance
