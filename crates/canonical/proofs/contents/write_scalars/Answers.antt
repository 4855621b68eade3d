use Rattle.canonical.specs.Contents.{scalar_line}
use Rattle.canonical.proofs.PieceLaws.{text-at}
use Rattle.canonical.proofs.contents.write_scalars.Goals as goal

pub loop-scalar-preserved : goal.loop-scalar-preserved
loop-scalar-preserved c = text-at scalar_line c.args.scalars.now c.loop-scalar.scalar-index _ _ _ _ c.loop-scalar-test.true c.loop-scalar.invariant c.in_ok-write_scalar.ensures
