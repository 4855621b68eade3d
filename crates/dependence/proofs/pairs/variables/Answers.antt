use Rattle.std.proofs.Common.{sym, subst, lit<}
use Rattle.dependence.specs.Systems.{IsSystemOf}
use Rattle.dependence.proofs.PairLaws.{first-block, second-block}
use Rattle.dependence.proofs.pairs.variables.Goals as goal

pub block-first-requires : goal.block-first-requires
block-first-requires g c = (lit< tt, (lit< tt, first-block c.args.pred.now _ (subst (IsSystemOf c.args.pred.now) (sym c.system.view_is) c.requires.of)))

pub block-second-requires : goal.block-second-requires
block-second-requires g c = (lit< tt, (lit< tt, second-block c.args.pred.now _ (subst (IsSystemOf c.args.pred.now) (sym c.system.view_is) c.requires.of)))
