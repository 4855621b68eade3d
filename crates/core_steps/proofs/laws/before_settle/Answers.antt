use Rattle.core_steps.proofs.PhaseLaws.{reached-sound, known-held, main-failed}
use Rattle.std.proofs.Common.{refl}
use Rattle.core_steps.proofs.laws.before_settle.Goals as goal

pub returns : goal.returns
returns c words steps s run lawful = let h = reached-sound words steps s run in
    (known-held s h lawful, ((λ failed. h.phase.failed 0 s.main refl failed), λ raised. main-failed s h lawful raised))
