use Rattle.follow.proofs.ChainLaws.{chain-law}
use Rattle.follow.proofs.laws.chain.Goals as goal

pub returns : goal.returns
returns c = chain-law
