use Rattle.line_fit.proofs.SomeFit.{reason-one}
use Rattle.line_fit.proofs.laws.reason_is_one.Goals as goal

pub returns : goal.returns
returns c = reason-one
