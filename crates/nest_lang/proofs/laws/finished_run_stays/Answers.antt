use Rattle.nest_lang.proofs.RunLaws.{finished-run-stays}
use Rattle.nest_lang.proofs.laws.finished_run_stays.Goals as goal

pub returns : goal.returns
returns c = finished-run-stays
