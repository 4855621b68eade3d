use Rattle.refutation.proofs.PointLaws.{sum-met}
use Rattle.refutation.proofs.laws.add_keeps_points.Goals as goal

pub returns : goal.returns
returns c = sum-met
