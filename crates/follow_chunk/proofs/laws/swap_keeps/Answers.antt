use Rattle.follow_chunk.proofs.ReorderingLaws.{swap-keeps}
use Rattle.follow_chunk.proofs.laws.swap_keeps.Goals as goal

pub returns : goal.returns
returns c = swap-keeps
