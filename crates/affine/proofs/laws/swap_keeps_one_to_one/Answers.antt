use Rattle.affine.proofs.OneToOneLaws.{IsOneToOne-swap}
use Rattle.affine.proofs.laws.swap_keeps_one_to_one.Goals as goal

pub returns : goal.returns
returns c = IsOneToOne-swap
