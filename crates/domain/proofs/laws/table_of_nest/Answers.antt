use Rattle.domain.proofs.ShapeLaws.{table_of_nest}
use Rattle.domain.proofs.laws.table_of_nest.Goals as goal

pub returns : goal.returns
returns c = table_of_nest
