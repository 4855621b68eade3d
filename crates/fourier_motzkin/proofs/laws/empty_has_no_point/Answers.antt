use Rattle.fourier_motzkin.proofs.PointLaws.{verdict-unmet}
use Rattle.fourier_motzkin.proofs.laws.empty_has_no_point.Goals as goal

pub returns : goal.returns
returns c = verdict-unmet
