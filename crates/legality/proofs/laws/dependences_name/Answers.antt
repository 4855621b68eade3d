use Rattle.legality.proofs.NameLaws.{dependences_name}
use Rattle.legality.proofs.laws.dependences_name.Goals as goal

pub returns : goal.returns
returns c = dependences_name
