use Rattle.follow.proofs.LawfulLaws.{follow-is-lawful}
use Rattle.follow.proofs.laws.follow_is_lawful.Goals as goal

pub returns : goal.returns
returns c = follow-is-lawful
