use Rattle.fourier_motzkin.proofs.OrderLaws.{order_is_no_matter as law}
use Rattle.fourier_motzkin.proofs.laws.order_is_no_matter.Goals as goal

pub returns : goal.returns
returns c = law
