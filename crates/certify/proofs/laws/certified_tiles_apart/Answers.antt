use Rattle.certify.proofs.ClaimLaws.{certified_tiles_apart}
use Rattle.certify.proofs.laws.certified_tiles_apart.Goals as goal

pub returns : goal.returns
returns c = certified_tiles_apart
