use Rattle.dependence.proofs.SystemLaws.{pair_has_system}
use Rattle.dependence.proofs.laws.pair_has_system.Goals as goal

pub returns : goal.returns
returns c = pair_has_system
