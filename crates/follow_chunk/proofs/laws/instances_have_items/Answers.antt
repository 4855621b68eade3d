use Rattle.follow_chunk.proofs.ConflictLaws.{instances-have-items}
use Rattle.follow_chunk.proofs.laws.instances_have_items.Goals as goal

pub returns : goal.returns
returns c = instances-have-items
