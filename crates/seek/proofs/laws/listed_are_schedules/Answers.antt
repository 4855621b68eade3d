use Rattle.seek.proofs.ScriptLaws.{listed_are_schedules}
use Rattle.seek.proofs.laws.listed_are_schedules.Goals as goal

pub returns : goal.returns
returns c = listed_are_schedules
