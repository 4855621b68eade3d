use Rattle.refutation.proofs.PointLaws.{refutation-met}
use Rattle.refutation.proofs.laws.refutation_keeps_points.Goals as goal

pub returns : goal.returns
returns c = refutation-met
