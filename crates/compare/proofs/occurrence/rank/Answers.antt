use Rattle.std.proofs.Common.{sym, ap, ◌∙◌, length}
use Rattle.compare.proofs.OccurringLaws.{rank-found, rank-missing}
use Rattle.compare.proofs.occurrence.rank.Goals as goal

pub returns-in-Some : goal.returns-in-Some
returns-in-Some g c = rank-found _ _ c.args.task.now.pred.now _ c.requires.shape c.requires.next.table c.args.block c.in-Some.rank (sym c.in-Some.ensures)

pub returns-in-None : goal.returns-in-None
returns-in-None g c = rank-missing _ _ c.args.task.now.pred.now _ c.requires.shape c.requires.next.table c.args.block c.len.result (sym c.in-None.ensures) (c.len.ensures.value ∙ ap length c.blocks-in-None.ensures)
