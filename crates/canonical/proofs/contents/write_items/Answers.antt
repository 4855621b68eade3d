use Rattle.canonical.specs.Contents.{item_line}
use Rattle.canonical.proofs.PieceLaws.{text-more}
use Rattle.canonical.proofs.contents.write_items.Goals as goal

pub loop-item-preserved : goal.loop-item-preserved
loop-item-preserved c = text-more item_line c.args.items.now c.loop-item.item-index c.item-item.result _ _ _ c.loop-item-test.true c.item-item.is c.loop-item.invariant c.in_ok-write_item.ensures
