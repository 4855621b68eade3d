use Rattle.affine.proofs.RowLaws.{sum_at-combination}
use Rattle.affine.proofs.laws.combination_is_linear.Goals as goal

pub returns : goal.returns
returns c = sum_at-combination
