use Rattle.affine.proofs.InverseLaws.{inverted}
use Rattle.affine.proofs.laws.inverted_is_one_to_one_and_onto.Goals as goal

pub returns : goal.returns
returns c = inverted
