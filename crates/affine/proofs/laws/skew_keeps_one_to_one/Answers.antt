use Rattle.affine.proofs.OneToOneLaws.{IsOneToOne-skew}
use Rattle.affine.proofs.laws.skew_keeps_one_to_one.Goals as goal

pub returns : goal.returns
returns c = IsOneToOne-skew
