use Rattle.certify.proofs.ClaimLaws.{certified_is_unmet}
use Rattle.certify.proofs.laws.certified_is_unmet.Goals as goal

pub returns : goal.returns
returns c = certified_is_unmet
