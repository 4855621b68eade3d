use Rattle.affine.proofs.InverseLaws.{IsInverse-skew}
use Rattle.affine.proofs.laws.skew_keeps_inverse.Goals as goal

pub returns : goal.returns
returns c = IsInverse-skew
