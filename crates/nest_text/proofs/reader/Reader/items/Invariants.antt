use Rattle.std.proofs.Common.{◌≡◌, length}
use Rattle.nest_grammar.specs.Readings.{many}
use Rattle.nest_grammar.specs.Contents.{item_keyword, item, items}
use Rattle.nest_text.proofs.reader.Reader.items.Given as goal

abbrev pub invariant-items : goal.invariant-items
invariant-items l = many item_keyword (item l.words) l.items l.self ≡ items l.fn.words l.fn.self

abbrev pub decreases-items : goal.decreases-items
decreases-items l = length l.self.left
