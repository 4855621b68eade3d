use Rattle.std.proofs.Common.{rules}
use Rattle.follow_chunk.proofs.task.Task.block.Goals as goal

pub block-forms-requires : goal.block-forms-requires
block-forms-requires g c =
    let block = c.requires.predicted.is.block in
    search rules
