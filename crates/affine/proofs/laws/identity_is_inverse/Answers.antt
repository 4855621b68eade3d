use Rattle.affine.proofs.InverseLaws.{IsInverse-identity}
use Rattle.affine.proofs.laws.identity_is_inverse.Goals as goal

pub returns : goal.returns
returns c = IsInverse-identity
