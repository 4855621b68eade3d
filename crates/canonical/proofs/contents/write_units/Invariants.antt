use Rattle.std.proofs.Common.{◌≡◌, ◌++◌, take}
use Rattle.std.specs.List.{flat_map}
use Rattle.canonical.specs.Pieces.{text_of}
use Rattle.canonical.specs.Contents.{unit_lines}
use Rattle.canonical.proofs.contents.write_units.Given as goal

abbrev pub invariant-loop-unit : goal.invariant-loop-unit
invariant-loop-unit l = l.page ≡ l.fn.page ++ text_of (flat_map (unit_lines l.scalars) (take l.unit-index l.units))
