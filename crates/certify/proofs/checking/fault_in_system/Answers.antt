use Rattle.std.proofs.Common.{◌∙◌, sym, ap, List, arith}
use Rattle.dependence.specs.Systems.{System}
use Rattle.dependence.specs.Legality.{Trial}
use Rattle.certify.specs.Checks.{due_fault}
use Rattle.certify.proofs.FaultLaws.{fault-found, not-some, one-past, trials_of-is}
use Rattle.certify.proofs.checking.fault_in_system.Goals as goal

pub loop-place-preserved : goal.loop-place-preserved
loop-place-preserved g c =
    one-past c.args.pred.now c.args.schedule.now c.args.blocks.now c.args.system.now c.args.violations.now c.args.due c.loop-place.place c.index-violations-place.result c.index-violations-place.result c.loop-place.invariant
    (omega (arith, c.loop-place-test.true)) (sym c.index-violations-place.is) (not-some c.in_ok-why.field-0 c.in_default.not-Some ∙ c.in_ok-why.ensures)

pub returns-in-Some : goal.returns-in-Some
returns-in-Some g c =
    let t = c.args.pred.now in
    let s = c.args.schedule.now in
    let case = ap (λ (x : System). x.case) c.system.view_is in
    fault-found t s c.args.blocks.now c.args.system.now c.args.violations.now c.args.due c.loop-place.place c.index-violations-place.result c.index-violations-place.result c.in-Some.why c.loop-place.invariant
    (omega (arith, c.loop-place-test.true)) (sym c.index-violations-place.is) (sym c.in-Some.is ∙ c.in_ok-why.ensures)
    ∙ ap (λ (vs : List Trial). due_fault t s c.args.blocks.now c.args.due vs) (trials_of-is t s c.args.blocks.now g.row.D c.args.system.now c.args.violations.now c.requires.table.deep (omega (arith, case, c.if-system.false)) c.requires.violations)
