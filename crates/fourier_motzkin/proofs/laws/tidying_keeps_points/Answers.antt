use Rattle.fourier_motzkin.proofs.PointLaws.{tidied-met, met-tidied}
use Rattle.fourier_motzkin.proofs.laws.tidying_keeps_points.Goals as goal

pub returns : goal.returns
returns c = λ rows point. (tidied-met rows point, met-tidied rows point)
