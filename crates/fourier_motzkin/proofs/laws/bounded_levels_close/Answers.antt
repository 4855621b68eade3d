use Rattle.fourier_motzkin.proofs.MaybeLaws.{bounded_levels_close as law}
use Rattle.fourier_motzkin.proofs.laws.bounded_levels_close.Goals as goal

pub returns : goal.returns
returns c = law
