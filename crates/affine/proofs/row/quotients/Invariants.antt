use Rattle.std.proofs.Common.{◌≡◌, take, map}
use Rattle.std.specs.Int.{int_div_euclid}
use Rattle.affine.proofs.row.quotients.Given as goal

abbrev pub invariant-loop-number : goal.invariant-loop-number
invariant-loop-number l = l.quotients.items ≡ map (λ number. int_div_euclid number l.divisor) (take l.number-index l.numbers)
