use Rattle.dependence.proofs.UnseenLaws.{unseen_loop_unmet}
use Rattle.dependence.proofs.laws.unseen_loop_unmet.Goals as goal

pub returns : goal.returns
returns c = unseen_loop_unmet
