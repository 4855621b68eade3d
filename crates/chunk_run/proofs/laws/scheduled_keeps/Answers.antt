use Rattle.chunk_run.proofs.ScheduleLaws.{scheduled-keeps}
use Rattle.chunk_run.proofs.laws.scheduled_keeps.Goals as goal

pub returns : goal.returns
returns c = scheduled-keeps
