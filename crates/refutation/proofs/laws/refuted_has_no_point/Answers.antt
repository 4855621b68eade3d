use Rattle.refutation.proofs.PointLaws.{refuted-unmet}
use Rattle.refutation.proofs.laws.refuted_has_no_point.Goals as goal

pub returns : goal.returns
returns c = refuted-unmet
