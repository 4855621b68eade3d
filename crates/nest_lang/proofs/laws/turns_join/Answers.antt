use Rattle.nest_lang.proofs.TurnLaws.{turns-join}
use Rattle.nest_lang.proofs.laws.turns_join.Goals as goal

pub returns : goal.returns
returns c = turns-join
