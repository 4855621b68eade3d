use Rattle.compare.proofs.PredictedChainLaws.{tasks-are-chunks}
use Rattle.compare.proofs.CompareLaws.{tasks-are-watchable}
use Rattle.compare.proofs.laws.tasks_are_chunks.Goals as goal

pub returns : goal.returns
returns c = record { chunks = tasks-are-chunks; watchable = tasks-are-watchable }
