use Rattle.dependence.proofs.VerdictLaws.{legal_is_unmet}
use Rattle.dependence.proofs.laws.legal_is_unmet.Goals as goal

pub returns : goal.returns
returns c = legal_is_unmet
