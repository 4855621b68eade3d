use Rattle.std.proofs.Common.{◌≡◌, ◌+◌, pos, drop}
use Rattle.domain.specs.Launches.{stores_failure}
use Rattle.domain.proofs.table.BlockForms.stores_failure.Given as goal

abbrev pub invariant-loop-place : goal.invariant-loop-place
invariant-loop-place g l = stores_failure (pos l.words) 1 l.access-items l.at ≡ stores_failure (pos l.words) (l.place + 1) (drop l.place l.access-items) l.at
