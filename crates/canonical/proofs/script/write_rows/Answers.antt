use Rattle.canonical.specs.Scripts.{operand}
use Rattle.canonical.proofs.PieceLaws.{text-at}
use Rattle.canonical.proofs.script.write_rows.Goals as goal

pub loop-row-preserved : goal.loop-row-preserved
loop-row-preserved c = text-at operand c.args.rows.now c.loop-row.row-index _ _ _ _ c.loop-row-test.true c.loop-row.invariant (rw c.from.ensures at c.in_ok-write_operand.ensures)
