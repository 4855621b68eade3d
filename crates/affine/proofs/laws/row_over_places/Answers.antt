use Rattle.affine.proofs.PlaceLaws.{row_over_places as law}
use Rattle.affine.proofs.laws.row_over_places.Goals as goal

pub returns : goal.returns
returns c = law
