use Rattle.std.proofs.Common.{◌≡◌, ◌-◌, map}
use Rattle.std.specs.List.{range_with_len}
use Rattle.dependence.specs.Systems.{system}
use Rattle.dependence.proofs.pairs.systems_of.Given as goal

abbrev pub invariant-loop-case : goal.invariant-loop-case
invariant-loop-case g l = l.found.items ≡ map (system l.pred l.length l.first l.second) (range_with_len 1 (l.case - 1))
