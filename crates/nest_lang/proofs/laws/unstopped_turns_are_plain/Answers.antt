use Rattle.nest_lang.proofs.Unstopped.{unstopped-turns-plain}
use Rattle.nest_lang.proofs.laws.unstopped_turns_are_plain.Goals as goal

pub returns : goal.returns
returns c = unstopped-turns-plain
