use Rattle.certify.proofs.FaultLaws.{ArePast}
use Rattle.certify.proofs.checking.fault_in_system.Given as goal

abbrev pub invariant-loop-place : goal.invariant-loop-place
invariant-loop-place g l = ArePast l.pred l.schedule l.blocks l.system l.violations l.due l.place
