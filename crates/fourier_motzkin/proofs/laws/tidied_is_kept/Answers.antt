use Rattle.fourier_motzkin.proofs.OrderLaws.{tidied_is_kept as law}
use Rattle.fourier_motzkin.proofs.laws.tidied_is_kept.Goals as goal

pub returns : goal.returns
returns c = law
