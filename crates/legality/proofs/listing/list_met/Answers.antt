use Rattle.std.proofs.Common.{sym, subst, lit<, arith}
use Rattle.dependence.specs.Systems.{IsSystemOf}
use Rattle.legality.proofs.MetLaws.{one-met}
use Rattle.legality.proofs.listing.list_met.Goals as goal

pub list_one-requires : goal.list_one-requires
list_one-requires g c =
    (lit< tt, (c.requires.few, subst (IsSystemOf c.args.pred.now) (sym c.system-item.is) (c.requires.of c.loop-system.system-index c.system-item.result (omega (arith, c.loop-system-test.true)))))

pub loop-system-preserved : goal.loop-system-preserved
loop-system-preserved g c =
    one-met c.args.pred.now c.args.systems.now c.loop-system.system-index c.system-item.result c.args.found.now.items c.loop-system.found.items c.list_one.new.found.items (omega (arith, c.loop-system-test.true)) (sym c.system-item.is) c.loop-system.invariant c.in_ok-list_one.ensures
