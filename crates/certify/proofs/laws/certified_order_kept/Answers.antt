use Rattle.certify.proofs.ClaimLaws.{certified_order_kept}
use Rattle.certify.proofs.laws.certified_order_kept.Goals as goal

pub returns : goal.returns
returns c = certified_order_kept
