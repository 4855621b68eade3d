use Rattle.follow_chunk.proofs.ConflictLaws.{next-is-successor}
use Rattle.follow_chunk.proofs.laws.next_is_successor.Goals as goal

pub returns : goal.returns
returns c = next-is-successor
