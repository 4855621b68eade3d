use Rattle.std.proofs.Common.{◌≡◌, ◌∙◌, ◌+◌, ap, sym, subst, length, drop, true, arith}
use Rattle.nest_grammar.specs.Files.{after_items}
use Rattle.nest_grammar.specs.Rules.{item_fits}
use Rattle.nest_text.proofs.StoredItemLaws.{after_items-next, after_items-all, length-after_item, fits-at}
use Rattle.nest_text.proofs.file.set_items.Goals as goal

pub set_item-requires : goal.set_item-requires
set_item-requires c =
    subst (λ n. item_fits n c.item-item.result ≡ true) (sym c.loop-item.invariant.1) (fits-at (length c.args.memory.now) c.loop-item.item-index c.args.items.now c.item-item.result c.requires c.loop-item-test.true c.item-item.is)

pub loop-item-preserved : goal.loop-item-preserved
loop-item-preserved c =
    let at = c.loop-item.item-index in (
      c.loop-item.invariant.0 ∙ after_items-next at c.args.items.now c.loop-item.memory c.item-item.result c.loop-item-test.true c.item-item.is ∙ ap (λ m. after_items m (drop (at + 1) c.args.items.now)) (sym c.set_item.ensures),
      ap length c.set_item.ensures ∙ length-after_item c.loop-item.memory c.item-item.result ∙ c.loop-item.invariant.1,
    )

pub returns : goal.returns
returns c = sym (c.loop-item.invariant.0 ∙ after_items-all c.loop-item.item-index c.args.items.now c.loop-item.memory (omega (arith, c.loop-item-test.false)))
