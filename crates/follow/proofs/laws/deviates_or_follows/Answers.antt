use Rattle.follow.proofs.DeviatingLaws.{deviates-or-follows}
use Rattle.follow.proofs.DeviatingLaws.{not-both}
use Rattle.follow.proofs.laws.deviates_or_follows.Goals as goal

pub returns-clause-one : goal.returns-clause-one
returns-clause-one c = deviates-or-follows

pub returns-clause-not_both : goal.returns-clause-not_both
returns-clause-not_both c = not-both
