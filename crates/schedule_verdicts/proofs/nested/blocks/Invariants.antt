use Rattle.std.proofs.Common.{◌≡◌, ◌-◌, map}
use Rattle.std.specs.List.{range_with_len}
use Rattle.schedule_verdicts.specs.Nests.{head}
use Rattle.schedule_verdicts.proofs.nested.blocks.Given as goal

abbrev pub invariant-loop-level : goal.invariant-loop-level
invariant-loop-level g l = l.blocks.items ≡ map head (range_with_len 2 (l.level - 2))
