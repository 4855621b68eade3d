use Rattle.std.proofs.Common.{◌≡◌, ◌++◌, take}
use Rattle.std.specs.List.{flat_map}
use Rattle.canonical.specs.Pieces.{text_of}
use Rattle.canonical.specs.Contents.{scalar_line}
use Rattle.canonical.proofs.contents.write_scalars.Given as goal

abbrev pub invariant-loop-scalar : goal.invariant-loop-scalar
invariant-loop-scalar l = l.page ≡ l.fn.page ++ text_of (flat_map scalar_line (take l.scalar-index l.scalars))
