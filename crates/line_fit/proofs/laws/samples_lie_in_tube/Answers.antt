use Rattle.line_fit.proofs.LineLaws.{lie-in-tube}
use Rattle.line_fit.proofs.laws.samples_lie_in_tube.Goals as goal

pub returns : goal.returns
returns c = lie-in-tube
