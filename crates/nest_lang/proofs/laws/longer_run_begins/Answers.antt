use Rattle.nest_lang.proofs.RunLaws.{longer-run-begins}
use Rattle.nest_lang.proofs.laws.longer_run_begins.Goals as goal

pub returns : goal.returns
returns c = longer-run-begins
