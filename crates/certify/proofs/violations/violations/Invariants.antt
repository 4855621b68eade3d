use Rattle.std.proofs.Common.{◌≡◌}
use Rattle.certify.proofs.RowLaws.{before}
use Rattle.certify.proofs.violations.violations.Given as goal

abbrev pub invariant-loop-row : goal.invariant-loop-row
invariant-loop-row g l = l.found.items ≡ before l.schedule l.row
