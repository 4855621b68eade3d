use Rattle.affine.proofs.PlaceLaws.{quotient_is_interval as law}
use Rattle.affine.proofs.laws.quotient_is_interval.Goals as goal

pub returns : goal.returns
returns c = law
