use Rattle.canonical.specs.Scripts.{candidate_line}
use Rattle.canonical.proofs.PieceLaws.{text-more}
use Rattle.canonical.proofs.contents.write_candidates.Goals as goal

pub loop-script-preserved : goal.loop-script-preserved
loop-script-preserved c = text-more candidate_line c.args.scripts.now c.loop-script.script-index c.script-item.result _ _ _ c.loop-script-test.true c.script-item.is c.loop-script.invariant (rw c.as_slice.ensures at c.in_ok-write_candidate.ensures)
