use Rattle.affine.proofs.OneToOneLaws.{IsOneToOne-identity}
use Rattle.affine.proofs.laws.identity_is_one_to_one.Goals as goal

pub returns : goal.returns
returns c = IsOneToOne-identity
