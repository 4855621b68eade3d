use Rattle.std.proofs.Common.{◌≡◌, ◌∙◌, sym, ap, subst, List, FitsSigned, w64, lit<, rules, arith}
use Rattle.std.specs.List.{All, flat_map}
use Rattle.std.proofs.lemmas.Int.{to_z-of_z}
use Rattle.dependence.specs.Systems.{IsSystemOf, systems}
use Rattle.dependence.specs.Legality.{Violated, trials_of, violations}
use Rattle.certify.specs.declared.certificates.Claimed.{Claimed}
use Rattle.certify.specs.Certificates.{Certificate, HasProof, IsRowOf}
use Rattle.certify.specs.Checks.{due_fault, surplus_fault}
use Rattle.certify.proofs.FaultLaws.{all-checked, count-is, no-fault, one-checked, some-fault, system-at, system-fails, violations-are}
use Rattle.certify.proofs.checking.first_fault.Goals as goal

pub fault_in_system-requires : goal.fault_in_system-requires
fault_in_system-requires g c =
    let t = c.args.pred.now in
    let table = c.depth-depth.ensures.table in
    let of : IsSystemOf t c.system-item.result = system-at t _ c.deref-system-items.result.now c.loop-system.system-index c.system-item.result (c.deref-system-items.ensures.value ∙ c.in_ok-systems.ensures) (omega (arith, c.loop-system-test.true)) c.system-item.is in
    let made : c.deref.result.now ≡ violations t c.args.schedule.now = violations-are g.row.D t c.args.schedule.now c.deref.result.now table.deep (c.deref.ensures.value ∙ c.in_ok-violations.ensures.value) in
    let rows : All (IsRowOf g.row.D) c.deref.result.now = subst (λ (us : List Violated). All (IsRowOf g.row.D) us) (sym c.deref.ensures.value) c.in_ok-violations.ensures.rows in
    let same : c.as_slice-blocks.result.now ≡ c.args.certificate.now.blocks = c.as_slice-blocks.ensures.value ∙ ap (λ (x : Certificate). x.blocks) c.certificate.view_is in
    let proofs : All HasProof c.as_slice-blocks.result.now = subst (λ (bs : List Claimed). All HasProof bs) (sym same) c.requires.proofs in
    (lit< tt, (search rules, (table, (of, (made, (rows, (proofs, c.loop-system.invariant.most)))))))

pub loop-system-preserved : goal.loop-system-preserved
loop-system-preserved g c =
    let t = c.args.pred.now in
    let table = c.depth-depth.ensures.table in
    let made : c.deref-in-loop-system.result.now ≡ violations t c.args.schedule.now = violations-are g.row.D t c.args.schedule.now c.deref-in-loop-system.result.now table.deep (c.deref-in-loop-system.ensures.value ∙ c.in_ok-violations.ensures.value) in
    one-checked t c.args.schedule.now c.as_slice-blocks.result.now c.deref-system-items.result.now c.loop-system.system-index c.loop-system.due c.system-item.result c.system-item.result c.trial_count-due.result c.in_ok-fault.fault
    c.loop-system.invariant (omega (arith, c.loop-system-test.true)) (sym c.system-item.is) c.in_ok-fault.ensures (sym c.if-is_some.ensures)
    (c.trial_count-due.ensures ∙ count-is t c.args.schedule.now c.as_slice-blocks.result.now c.depth-depth.result c.system-item.result c.deref-in-loop-system.result.now (table.deep ∙ sym c.depth-depth.ensures.value) made)

pub returns-then-is_some : goal.returns-then-is_some
returns-then-is_some g c =
    let t = c.args.pred.now in
    let s = c.args.schedule.now in
    let same : c.as_slice-blocks.result.now ≡ c.args.certificate.now.blocks = c.as_slice-blocks.ensures.value ∙ ap (λ (x : Certificate). x.blocks) c.certificate.view_is in
    let l : FitsSigned w64 c.certificate.inside.length = search rules in
    let listed : c.deref-system-items.result.now ≡ systems t c.args.certificate.now.length = c.deref-system-items.ensures.value ∙ (simp to_z-of_z at c.in_ok-systems.ensures) ∙ ap (λ (x : Certificate). systems t x.length) c.certificate.view_is in
    some-fault t s c.args.certificate.now c.deref-system-items.result.now c.in_ok-fault.fault listed
    (system-fails t s c.as_slice-blocks.result.now c.deref-system-items.result.now c.loop-system.system-index c.loop-system.due c.system-item.result c.system-item.result c.in_ok-fault.fault
    c.loop-system.invariant (omega (arith, c.loop-system-test.true)) (sym c.system-item.is) c.in_ok-fault.ensures (sym c.if-is_some.ensures)
    ∙ ap (λ (bs : List Claimed). due_fault t s bs 0 (flat_map (trials_of t s) c.deref-system-items.result.now)) same)
    (sym c.if-is_some.ensures)

pub returns : goal.returns
returns g c =
    let t = c.args.pred.now in
    let s = c.args.schedule.now in
    let same : c.as_slice-blocks.result.now ≡ c.args.certificate.now.blocks = c.as_slice-blocks.ensures.value ∙ ap (λ (x : Certificate). x.blocks) c.certificate.view_is in
    let l : FitsSigned w64 c.certificate.inside.length = search rules in
    let listed : c.deref-system-items.result.now ≡ systems t c.args.certificate.now.length = c.deref-system-items.ensures.value ∙ (simp to_z-of_z at c.in_ok-systems.ensures) ∙ ap (λ (x : Certificate). systems t x.length) c.certificate.view_is in
    let done = all-checked t s c.as_slice-blocks.result.now c.deref-system-items.result.now c.loop-system.system-index c.loop-system.due c.loop-system.invariant (omega (arith, c.loop-system-test.false)) in
    no-fault t s c.args.certificate.now c.deref-system-items.result.now c.loop-system.due c.surplus_fault.result listed
    (done.0 ∙ ap (λ (bs : List Claimed). due_fault t s bs 0 (flat_map (trials_of t s) c.deref-system-items.result.now)) same)
    done.1 (c.surplus_fault.ensures ∙ ap (λ (bs : List Claimed). surplus_fault bs c.loop-system.due) same)
