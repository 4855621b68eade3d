use Rattle.affine.proofs.OneToOneLaws.{product-identity}
use Rattle.affine.proofs.laws.identity_keeps_points.Goals as goal

pub returns : goal.returns
returns c = product-identity
