use Rattle.domain.proofs.CounterLaws.{launched_counters}
use Rattle.domain.proofs.laws.launched_counters.Goals as goal

pub returns : goal.returns
returns c = launched_counters
