use Rattle.seek.proofs.RefutedLaws.{refuted_is_illegal}
use Rattle.seek.proofs.laws.refuted_is_illegal.Goals as goal

pub returns : goal.returns
returns c = refuted_is_illegal
