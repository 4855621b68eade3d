use Rattle.std.proofs.Common.{◌≡◌, take}
use Rattle.affine.specs.Divisors.{common_divisor}
use Rattle.affine.proofs.row.greatest_divisor.Given as goal

abbrev pub invariant-loop-number : goal.invariant-loop-number
invariant-loop-number l = l.divisor ≡ common_divisor (take l.number-index l.numbers)
