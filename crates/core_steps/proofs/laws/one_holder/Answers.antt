use Rattle.core_steps.proofs.PhaseLaws.{reached-sound, one-holder-of}
use Rattle.core_steps.proofs.laws.one_holder.Goals as goal

pub returns : goal.returns
returns c words steps s run = one-holder-of s (reached-sound words steps s run)
