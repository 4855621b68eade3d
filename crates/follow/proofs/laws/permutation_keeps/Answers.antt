use Rattle.follow.proofs.ReorderingLaws.{permutation-keeps}
use Rattle.follow.proofs.ReorderingLaws.{places-keep}
use Rattle.follow.proofs.laws.permutation_keeps.Goals as goal

pub returns-clause-permutation : goal.returns-clause-permutation
returns-clause-permutation c = permutation-keeps

pub returns-clause-places : goal.returns-clause-places
returns-clause-places c = places-keep
