use Rattle.follow.proofs.ReorderingLaws.{swap-keeps}
use Rattle.follow.proofs.laws.swap_keeps.Goals as goal

pub returns : goal.returns
returns c = swap-keeps
