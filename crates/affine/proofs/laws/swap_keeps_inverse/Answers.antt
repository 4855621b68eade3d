use Rattle.affine.proofs.InverseLaws.{IsInverse-swap}
use Rattle.affine.proofs.laws.swap_keeps_inverse.Goals as goal

pub returns : goal.returns
returns c = IsInverse-swap
