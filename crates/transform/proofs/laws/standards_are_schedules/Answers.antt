use Rattle.transform.proofs.StandardLaws.{standards_are_schedules as law}
use Rattle.transform.proofs.laws.standards_are_schedules.Goals as goal

pub returns : goal.returns
returns c = law
