use Rattle.fourier_motzkin.proofs.PointLaws.{eliminated-met}
use Rattle.fourier_motzkin.proofs.laws.eliminating_keeps_points.Goals as goal

pub returns : goal.returns
returns c = eliminated-met
