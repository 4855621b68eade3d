use Rattle.std.proofs.Common.{◌≡◌, drop}
use Rattle.domain.specs.Launches.{scalars_failure}
use Rattle.domain.proofs.table.BlockForms.scalars_failure.Given as goal

abbrev pub invariant-loop-number : goal.invariant-loop-number
invariant-loop-number g l = scalars_failure 0 l.form-items l.at ≡ scalars_failure l.number (drop l.number l.form-items) l.at
