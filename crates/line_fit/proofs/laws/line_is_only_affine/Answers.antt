use Rattle.line_fit.proofs.LineLaws.{only-affine}
use Rattle.line_fit.proofs.laws.line_is_only_affine.Goals as goal

pub returns : goal.returns
returns c = only-affine
