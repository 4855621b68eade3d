use Rattle.std.proofs.Common.{◌≡◌, ◌++◌, take}
use Rattle.std.specs.List.{flat_map}
use Rattle.canonical.specs.Pieces.{text_of}
use Rattle.canonical.specs.Scripts.{candidate_line}
use Rattle.canonical.proofs.contents.write_candidates.Given as goal

abbrev pub invariant-loop-script : goal.invariant-loop-script
invariant-loop-script l = l.page ≡ l.fn.page ++ text_of (flat_map candidate_line (take l.script-index l.scripts))
