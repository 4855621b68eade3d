use Rattle.affine.proofs.NormalLaws.{normal-normal}
use Rattle.affine.proofs.laws.normal_is_idempotent.Goals as goal

pub returns : goal.returns
returns c = normal-normal
