use Rattle.nest_lang.proofs.WhileTurnLaws.{while-is-its-turns}
use Rattle.nest_lang.proofs.laws.while_is_its_turns.Goals as goal

pub returns : goal.returns
returns c = while-is-its-turns
