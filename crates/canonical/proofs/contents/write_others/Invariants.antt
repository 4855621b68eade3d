use Rattle.std.proofs.Common.{◌≡◌, ◌++◌, take}
use Rattle.std.specs.List.{flat_map}
use Rattle.canonical.specs.Pieces.{text_of}
use Rattle.canonical.specs.Contents.{next_value}
use Rattle.canonical.proofs.contents.write_others.Given as goal

abbrev pub invariant-loop-value : goal.invariant-loop-value
invariant-loop-value l = l.page ≡ l.fn.page ++ text_of (flat_map next_value (take l.value-index l.values))
