use Rattle.core_steps.proofs.PhaseLaws.{reached-sound}
use Rattle.core_steps.proofs.laws.inv_holds.Goals as goal

pub returns : goal.returns
returns c = reached-sound
