use Rattle.std.proofs.Common.{◌≡◌, ◌++◌, take}
use Rattle.std.specs.List.{flat_map}
use Rattle.canonical.specs.Pieces.{text_of}
use Rattle.canonical.specs.Scripts.{next_command}
use Rattle.canonical.proofs.script.write_others.Given as goal

abbrev pub invariant-loop-command : goal.invariant-loop-command
invariant-loop-command l = l.page ≡ l.fn.page ++ text_of (flat_map next_command (take l.command-index l.commands))
