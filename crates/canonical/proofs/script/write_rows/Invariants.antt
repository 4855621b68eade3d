use Rattle.std.proofs.Common.{◌≡◌, ◌++◌, take}
use Rattle.std.specs.List.{flat_map}
use Rattle.canonical.specs.Pieces.{text_of}
use Rattle.canonical.specs.Scripts.{operand}
use Rattle.canonical.proofs.script.write_rows.Given as goal

abbrev pub invariant-loop-row : goal.invariant-loop-row
invariant-loop-row l = l.page ≡ l.fn.page ++ text_of (flat_map operand (take l.row-index l.rows))
