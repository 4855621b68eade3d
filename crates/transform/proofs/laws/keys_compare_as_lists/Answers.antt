use Rattle.transform.proofs.KeyLaws.{keys_compare_as_lists as law}
use Rattle.transform.proofs.laws.keys_compare_as_lists.Goals as goal

pub returns : goal.returns
returns c = law
