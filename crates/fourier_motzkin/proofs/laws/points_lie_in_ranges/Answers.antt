use Rattle.fourier_motzkin.proofs.LevelLaws.{points_lie_in_ranges as law}
use Rattle.fourier_motzkin.proofs.laws.points_lie_in_ranges.Goals as goal

pub returns : goal.returns
returns c = law
