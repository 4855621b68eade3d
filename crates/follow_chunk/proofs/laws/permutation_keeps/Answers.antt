use Rattle.follow_chunk.proofs.ReorderingLaws.{permutation-keeps, places-keep}
use Rattle.follow_chunk.proofs.laws.permutation_keeps.Goals as goal

pub returns-clause-permutation : goal.returns-clause-permutation
returns-clause-permutation c = permutation-keeps

pub returns-clause-places : goal.returns-clause-places
returns-clause-places c = places-keep
