use Rattle.std.proofs.Common.{◌≡◌, ◌-◌, ◌++◌, map}
use Rattle.std.specs.List.{range_with_len, flat_map}
use Rattle.dependence.specs.Comparisons.{row_for}
use Rattle.dependence.specs.Systems.{equal_place}
use Rattle.dependence.proofs.rows.RowList.equal_places.Given as goal

abbrev pub invariant-loop-place : goal.invariant-loop-place
invariant-loop-place g l =
    l.self.rows.items ≡ l.initial.self.rows.items ++ map (row_for l.over.x l.over.y) (flat_map (equal_place l.pred l.a l.b) (range_with_len 0 (l.place - 0)))
