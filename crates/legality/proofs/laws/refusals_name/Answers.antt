use Rattle.legality.proofs.NameLaws.{refusals_name}
use Rattle.legality.proofs.laws.refusals_name.Goals as goal

pub returns : goal.returns
returns c = refusals_name
