use Rattle.legality.proofs.NameLaws.{choices_name}
use Rattle.legality.proofs.laws.choices_name.Goals as goal

pub returns : goal.returns
returns c = choices_name
