use Rattle.chunk_run.proofs.MomentLaws.{others-stay}
use Rattle.chunk_run.proofs.laws.others_stay.Goals as goal

pub returns : goal.returns
returns c = others-stay
