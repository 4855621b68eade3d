use Rattle.affine.proofs.PlaceLaws.{form_over_places as law}
use Rattle.affine.proofs.laws.form_over_places.Goals as goal

pub returns : goal.returns
returns c = law
