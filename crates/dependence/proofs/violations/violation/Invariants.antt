use Rattle.std.proofs.Common.{◌≡◌, ◌++◌, map, take}
use Rattle.std.specs.List.{flat_map}
use Rattle.dependence.specs.Comparisons.{row_for}
use Rattle.dependence.specs.Legality.{unmoved}
use Rattle.dependence.proofs.violations.violation.Given as goal

abbrev pub invariant-loop-leading : goal.invariant-loop-leading
invariant-loop-leading g l =
    l.list.rows.items ≡ l.initial.list.rows.items ++ map (row_for l.over.x l.over.y) (flat_map (unmoved l.pred l.a l.b) (take l.leading l.schedule.lines))
