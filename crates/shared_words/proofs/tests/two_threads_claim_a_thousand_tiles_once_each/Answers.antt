use Rattle.std.proofs.Common.{length}
use Rattle.shared_words.proofs.tests.two_threads_claim_a_thousand_tiles_once_each.Goals as goal

pub claims_beside-requires-clause-inside : goal.claims_beside-requires-clause-inside
claims_beside-requires-clause-inside g c κs = c.in_ok-plan.ensures.inside (length c.in_ok-words.main.view.base)
