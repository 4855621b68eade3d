use Rattle.transform.proofs.MeantLaws.{scripts_make_schedules as law}
use Rattle.transform.proofs.laws.scripts_make_schedules.Goals as goal

pub returns : goal.returns
returns c = law
