use Rattle.nest_lang.proofs.TurnLaws.{for-is-its-turns}
use Rattle.nest_lang.proofs.laws.for_is_its_turns.Goals as goal

pub returns : goal.returns
returns c = for-is-its-turns
