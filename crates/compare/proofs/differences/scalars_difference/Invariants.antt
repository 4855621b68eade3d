use Rattle.std.proofs.Common.{◌≡◌, drop}
use Rattle.compare.specs.Differences.{scalars_difference}
use Rattle.compare.proofs.differences.scalars_difference.Given as goal

abbrev pub invariant-loop-number : goal.invariant-loop-number
invariant-loop-number g l = scalars_difference l.pred l.inst 0 l.fn.scalars ≡ scalars_difference l.pred l.inst l.number (drop l.number l.fn.scalars)
