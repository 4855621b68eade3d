use Rattle.fourier_motzkin.proofs.LevelLaws.{levels_reach as law}
use Rattle.fourier_motzkin.proofs.laws.levels_reach.Goals as goal

pub returns : goal.returns
returns c = law
