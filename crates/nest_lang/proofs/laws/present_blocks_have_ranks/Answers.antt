use Rattle.nest_lang.proofs.RankLaws.{present_blocks-have-ranks}
use Rattle.nest_lang.proofs.laws.present_blocks_have_ranks.Goals as goal

pub returns : goal.returns
returns c = present_blocks-have-ranks
