use Rattle.std.proofs.Common.{◌≤◌, ◌-◌, pos}
use Rattle.domain.proofs.LaunchLaws.{Walk}
use Rattle.domain.proofs.launching.launch.Given as goal

abbrev pub invariant-walk : goal.invariant-walk
invariant-walk g l = record {
  walk : Walk g.row.D l.pred (pos l.words) l.fn.chunk l.at l.instances l.widths;
  few : l.instances ≤ 65536;
  small : l.widths ≤ 2097152;
}

abbrev pub decreases-walk : goal.decreases-walk
decreases-walk g l = 65536 - l.instances
