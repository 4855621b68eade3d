use Rattle.seek.proofs.SoughtLaws.{first_is_found}
use Rattle.seek.proofs.laws.first_is_found.Goals as goal

pub returns : goal.returns
returns c = first_is_found
