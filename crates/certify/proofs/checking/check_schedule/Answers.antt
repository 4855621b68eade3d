use Rattle.std.proofs.Common.{◌∙◌, sym, ap}
use Rattle.certify.specs.Checks.{checked_by}
use Rattle.certify.proofs.YesLaws.{check-yes}
use Rattle.certify.proofs.checking.check_schedule.Goals as goal

pub returns-in-None-clause-yes : goal.returns-in-None-clause-yes
returns-in-None-clause-yes g c =
    check-yes c.args.pred.now c.args.schedule.now c.args.certificate.now _ c.requires.proofs (ap checked_by (sym c.in-None.is ∙ c.in_ok-first_fault.ensures))

pub returns-in-Some-clause-yes : goal.returns-in-Some-clause-yes
returns-in-Some-clause-yes g c =
    check-yes c.args.pred.now c.args.schedule.now c.args.certificate.now _ c.requires.proofs (ap checked_by (sym c.in-Some.is ∙ c.in_ok-first_fault.ensures))
