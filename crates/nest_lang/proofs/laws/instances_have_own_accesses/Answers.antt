use Rattle.nest_lang.proofs.OwnAccessLaws.{instances-have-own-accesses, heads-have-own-accesses}
use Rattle.nest_lang.proofs.laws.instances_have_own_accesses.Goals as goal

pub returns : goal.returns
returns c = record { blocks = instances-have-own-accesses; heads = heads-have-own-accesses }
