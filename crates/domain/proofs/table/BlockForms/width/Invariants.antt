use Rattle.std.proofs.Common.{◌≡◌, ◌≤◌, ◌*◌, take}
use Rattle.std.specs.Prelude.{sum_by}
use Rattle.domain.specs.Launches.{access_width}
use Rattle.domain.proofs.table.BlockForms.width.Given as goal

abbrev pub invariant-loop-access : goal.invariant-loop-access
invariant-loop-access g l = record {
  sum : l.width ≡ sum_by access_width (take l.access-index l.access-items);
  small : l.width ≤ 65 * l.access-index;
}
