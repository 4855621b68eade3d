use Rattle.std.proofs.Common.{◌≡◌, ◌≤◌, ◌-◌, ◌++◌, ◌⊎◌, map}
use Rattle.std.specs.List.{range_with_len, flat_map}
use Rattle.domain.specs.Tables.{counters}
use Rattle.dependence.specs.Comparisons.{row_for}
use Rattle.dependence.specs.Systems.{inner_counter}
use Rattle.dependence.specs.Terms.{at_member}
use Rattle.dependence.proofs.rows.RowList.inner_counters.Given as goal

abbrev pub invariant-loop-place : goal.invariant-loop-place
invariant-loop-place g l = record {
  rows : l.self.rows.items ≡ l.initial.self.rows.items ++ map (row_for l.over.x l.over.y) (flat_map (inner_counter l.pred l.block (at_member l.member)) (range_with_len 1 (l.place - 1)));
  inside : (l.place ≤ 1) ⊎ (l.place ≤ counters l.pred l.block);
}
