use Rattle.std.proofs.Common.{◌≡◌, ◌++◌, take}
use Rattle.std.specs.List.{flat_map}
use Rattle.canonical.specs.Pieces.{text_of}
use Rattle.canonical.specs.Contents.{item_line}
use Rattle.canonical.proofs.contents.write_items.Given as goal

abbrev pub invariant-loop-item : goal.invariant-loop-item
invariant-loop-item l = l.page ≡ l.fn.page ++ text_of (flat_map item_line (take l.item-index l.items))
