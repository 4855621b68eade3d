use Rattle.schedule_verdicts.proofs.NestedLaws.{more-heads}
use Rattle.schedule_verdicts.proofs.nested.blocks.Goals as goal

pub loop-level-preserved : goal.loop-level-preserved
loop-level-preserved g c =
    let from = c.loop-level.auto.level in
    more-heads c.loop-level.level c.loop-level.blocks.items c.push.new.self.items _ _ c.new.ensures.items c.new-in-loop-level.ensures.items from c.loop-level.invariant c.in_ok-push.ensures.items
