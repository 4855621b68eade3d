use Rattle.affine.proofs.FloorLaws.{≤ℤ-floor_by}
use Rattle.affine.proofs.laws.floor_is_greatest.Goals as goal

pub returns : goal.returns
returns c = ≤ℤ-floor_by
