use Rattle.std.proofs.Common.{◌≡◌, ◌+◌, ◌-◌, ◌≤◌, ◌++◌, length}
use Rattle.seek.proofs.ScriptLaws.{tiles_before}
use Rattle.seek.proofs.schedules.push_tiles.Given as goal

abbrev pub invariant-loop-row : goal.invariant-loop-row
invariant-loop-row l = (l.script ≡ l.initial.script ++ tiles_before l.row) × (length l.script ≤ length l.initial.script + (l.row - 1))
