use Rattle.std.proofs.Common.{◌≡◌, ◌∙◌, subst, true}
use Rattle.std.specs.Prelude.{◌↔◌}
use Rattle.fourier_motzkin.specs.declared.verdicts.Ruling.{Ruling}
use Rattle.dependence.specs.Sides.{is_above}
use Rattle.legality.proofs.RefusalLaws.{judgement-is}
use Rattle.seek.specs.Confirmations.{IsRefusing}
use Rattle.seek.proofs.confirming.has_verdict.Goals as goal

pub returns : goal.returns
returns g c =
    let r = c.args.refusal.now in
    let is = judgement-is c.args.pred.now c.args.schedule.now c.args.system.now r.row (is_above r.side) c.variables.result c.deref.result.now c.in_ok-found.found c.variables.ensures.value (c.deref.ensures.value ∙ c.in_ok-rows.ensures.value) c.in_ok-found.ensures.value in
    subst (λ (q : Ruling). (c.is_refusing.result ≡ true) ↔ IsRefusing r.verdict q) is c.is_refusing.ensures
