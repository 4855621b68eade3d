use Rattle.canonical.specs.Contents.{unit_lines}
use Rattle.canonical.proofs.PieceLaws.{text-more}
use Rattle.canonical.proofs.contents.write_units.Goals as goal

pub loop-unit-preserved : goal.loop-unit-preserved
loop-unit-preserved c = text-more (unit_lines c.args.scalars.now) c.args.units.now c.loop-unit.unit-index c.unit-item.result _ _ _ c.loop-unit-test.true c.unit-item.is c.loop-unit.invariant c.in_ok-write_unit.ensures
