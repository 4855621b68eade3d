use Rattle.follow_chunk.proofs.ConflictLaws.{conflicts-agree}
use Rattle.follow_chunk.proofs.laws.conflicts_agree.Goals as goal

pub returns : goal.returns
returns c = conflicts-agree
