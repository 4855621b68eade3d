use Rattle.canonical.specs.Contents.{next_value}
use Rattle.canonical.proofs.PieceLaws.{text-at}
use Rattle.canonical.proofs.contents.write_others.Goals as goal

pub loop-value-preserved : goal.loop-value-preserved
loop-value-preserved c = text-at next_value c.args.values.now c.loop-value.value-index _ _ _ _ c.loop-value-test.true c.loop-value.invariant c.in_ok-write_next.ensures
