use Rattle.nest_lang.proofs.TurnLaws.{fewer-turns-begin}
use Rattle.nest_lang.proofs.laws.fewer_turns_begin.Goals as goal

pub returns : goal.returns
returns c = fewer-turns-begin
