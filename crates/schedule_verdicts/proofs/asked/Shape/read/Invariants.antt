use Rattle.std.specs.List.{All}
use Rattle.schedule_verdicts.specs.Nests.{IsCounted}
use Rattle.schedule_verdicts.proofs.asked.Shape.read.Given as goal

abbrev pub invariant-loop-item : goal.invariant-loop-item
invariant-loop-item g l = All IsCounted l.shape.levels.items
