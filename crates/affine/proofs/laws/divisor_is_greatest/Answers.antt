use Rattle.affine.proofs.DivisorLaws.{IsGreatestDivisor-common_divisor}
use Rattle.affine.proofs.laws.divisor_is_greatest.Goals as goal

pub returns : goal.returns
returns c = IsGreatestDivisor-common_divisor
