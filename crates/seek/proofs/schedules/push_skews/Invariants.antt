use Rattle.std.proofs.Common.{◌≡◌, ◌+◌, ◌-◌, ◌≤◌, ◌++◌, length}
use Rattle.seek.proofs.ScriptLaws.{skews_before}
use Rattle.seek.proofs.schedules.push_skews.Given as goal

abbrev pub invariant-loop-row : goal.invariant-loop-row
invariant-loop-row l = (l.script ≡ l.initial.script ++ skews_before l.depth l.factors l.row) × (length l.script ≤ length l.initial.script + (l.row - 2))
