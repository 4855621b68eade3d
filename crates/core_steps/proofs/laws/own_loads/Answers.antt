use Rattle.core_steps.proofs.OwnLoadLaws.{load-own-or-post}
use Rattle.core_steps.proofs.laws.own_loads.Goals as goal

pub returns : goal.returns
returns c = load-own-or-post
