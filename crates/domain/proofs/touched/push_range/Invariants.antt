use Rattle.std.proofs.Common.{◌≤◌, ◌<◌, ◌⊎◌}
use Rattle.domain.specs.Footprints.{Gains}
use Rattle.domain.proofs.touched.push_range.Given as goal

abbrev pub invariant-loop-address : goal.invariant-loop-address
invariant-loop-address l = record {
  gains : Gains (λ address. (l.from ≤ address) × (address < l.address)) l.initial.list.items l.list.items;
  inside : (l.address ≤ l.from) ⊎ (l.address ≤ l.to);
}
