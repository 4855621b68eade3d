use Rattle.dependence.proofs.ListLaws.{conflict_law}
use Rattle.dependence.proofs.laws.conflict_law.Goals as goal

pub returns : goal.returns
returns c = conflict_law
