use Rattle.fourier_motzkin.proofs.MaybeLaws.{allowed_points_meet as law}
use Rattle.fourier_motzkin.proofs.laws.allowed_points_meet.Goals as goal

pub returns : goal.returns
returns c = law
