use Rattle.follow_chunk.proofs.ConflictLaws.{instances-return}
use Rattle.follow_chunk.proofs.laws.instances_return.Goals as goal

pub returns : goal.returns
returns c = instances-return
