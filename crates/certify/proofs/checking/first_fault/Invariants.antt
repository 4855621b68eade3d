use Rattle.certify.proofs.FaultLaws.{AreChecked}
use Rattle.certify.proofs.checking.first_fault.Given as goal

abbrev pub invariant-loop-system : goal.invariant-loop-system
invariant-loop-system g l = AreChecked l.pred l.schedule l.blocks l.system-items l.system-index l.due
