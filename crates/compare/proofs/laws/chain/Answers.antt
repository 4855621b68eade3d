use Rattle.compare.proofs.PredictedChainLaws.{chain-at-predictions}
use Rattle.compare.proofs.laws.chain.Goals as goal

pub returns : goal.returns
returns c = chain-at-predictions
