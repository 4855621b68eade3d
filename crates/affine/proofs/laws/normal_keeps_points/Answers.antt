use Rattle.affine.proofs.NormalLaws.{Meets-normal}
use Rattle.affine.proofs.laws.normal_keeps_points.Goals as goal

pub returns : goal.returns
returns c = Meets-normal
