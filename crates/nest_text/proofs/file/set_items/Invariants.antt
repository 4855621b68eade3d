use Rattle.std.proofs.Common.{◌≡◌, length, drop}
use Rattle.nest_grammar.specs.Files.{after_items}
use Rattle.nest_text.proofs.file.set_items.Given as goal

abbrev pub invariant-loop-item : goal.invariant-loop-item
invariant-loop-item l = (after_items l.fn.memory l.items ≡ after_items l.memory (drop l.item-index l.items)) × (length l.memory ≡ length l.fn.memory)
