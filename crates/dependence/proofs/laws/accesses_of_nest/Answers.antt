use Rattle.dependence.proofs.NestLaws.{accesses_of_nest}
use Rattle.dependence.proofs.laws.accesses_of_nest.Goals as goal

pub returns : goal.returns
returns c = accesses_of_nest
