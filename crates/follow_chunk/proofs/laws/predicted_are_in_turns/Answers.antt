use Rattle.follow_chunk.proofs.ReorderingLaws.{predicted-in-turns}
use Rattle.follow_chunk.proofs.laws.predicted_are_in_turns.Goals as goal

pub returns : goal.returns
returns c = predicted-in-turns
