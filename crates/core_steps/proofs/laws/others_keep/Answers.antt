use Rattle.core_steps.proofs.PhaseLaws.{other-words-keep}
use Rattle.core_steps.proofs.laws.others_keep.Goals as goal

pub returns : goal.returns
returns c = other-words-keep
