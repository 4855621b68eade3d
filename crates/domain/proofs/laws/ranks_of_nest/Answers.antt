use Rattle.domain.proofs.ShapeLaws.{ranks_of_nest}
use Rattle.domain.proofs.laws.ranks_of_nest.Goals as goal

pub returns : goal.returns
returns c = ranks_of_nest
