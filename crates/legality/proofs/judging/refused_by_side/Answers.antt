use Rattle.std.proofs.Common.{◌∙◌, ap, sym, Some}
use Rattle.dependence.specs.Systems.{System}
use Rattle.dependence.specs.Sides.{is_above}
use Rattle.dependence.specs.Legality.{trial}
use Rattle.legality.proofs.RefusalLaws.{trial-none, trial-some, judgement-is}
use Rattle.legality.proofs.judging.refused_by_side.Goals as goal

pub returns-in-Empty : goal.returns-in-Empty
returns-in-Empty g c =
    trial-none c.args.pred.now c.args.schedule.now (trial c.args.system.now (record { row = c.args.row; above = is_above c.args.side }))
    (sym (judgement-is c.args.pred.now c.args.schedule.now c.args.system.now c.args.row (is_above c.args.side) c.variables.result c.deref.result.now c.in_ok-verdict.verdict c.variables.ensures.value (c.deref.ensures.value ∙ c.in_ok-rows.ensures.value) c.in_ok-verdict.ensures.value) ∙ c.in-Empty.is)

pub returns : goal.returns
returns g c =
    let is = judgement-is c.args.pred.now c.args.schedule.now c.args.system.now c.args.row (is_above c.args.side) c.variables.result c.deref.result.now c.in_ok-verdict.verdict c.variables.ensures.value (c.deref.ensures.value ∙ c.in_ok-rows.ensures.value) c.in_ok-verdict.ensures.value in
    ap (λ (x : System). Some (record { first = x.first; second = x.second; case = x.case; row = c.args.row; side = c.args.side; verdict = c.in_ok-verdict.verdict })) c.system.view_is
    ∙ trial-some c.args.pred.now c.args.schedule.now c.args.system.now c.args.row c.args.side c.in_ok-verdict.verdict (sym is) c.in_default.not-Empty
