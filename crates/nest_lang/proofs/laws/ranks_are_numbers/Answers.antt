use Rattle.nest_lang.proofs.RankLaws.{ranks-are-numbers}
use Rattle.nest_lang.proofs.laws.ranks_are_numbers.Goals as goal

pub returns : goal.returns
returns c = ranks-are-numbers
