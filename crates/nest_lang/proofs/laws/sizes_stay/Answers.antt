use Rattle.nest_lang.proofs.RunLaws.{sizes-stay}
use Rattle.nest_lang.proofs.laws.sizes_stay.Goals as goal

pub returns : goal.returns
returns c = sizes-stay
