use Rattle.follow.proofs.AlikeLaws.{follows-alike}
use Rattle.follow.proofs.laws.follow_depends_on_expected.Goals as goal

pub returns : goal.returns
returns c = follows-alike
