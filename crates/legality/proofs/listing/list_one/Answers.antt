use Rattle.std.proofs.Common.{◌≡◌, ◌∙◌, ap, ap₂, sym, subst, append-nil, ◌++◌, [], ◌∷◌, List}
use Rattle.fourier_motzkin.specs.Elimination.{AllOver}
use Rattle.fourier_motzkin.specs.Verdicts.{verdict_of}
use Rattle.dependence.specs.Legality.{joint_variables}
use Rattle.dependence.specs.Systems.{System}
use Rattle.legality.specs.declared.listing.Dependence.{Dependence}
use Rattle.legality.proofs.MetLaws.{met-none, met-some, system-over}
use Rattle.legality.proofs.listing.list_one.Goals as goal

pub verdict-requires-clause-over : goal.verdict-requires-clause-over
verdict-requires-clause-over g c =
    let same : c.deref.result.now ≡ c.args.system.now.rows = c.deref.ensures.value ∙ ap (λ (x : System). x.rows) c.system.view_is in
    subst (λ n. AllOver n c.deref.result.now) (sym c.variables.ensures.value) (subst (AllOver (joint_variables c.args.pred.now c.args.system.now)) (sym same) (system-over c.args.pred.now c.args.system.now c.requires.of))

pub returns-in-Empty : goal.returns-in-Empty
returns-in-Empty g c =
    let is : c.in_ok-verdict.verdict ≡ verdict_of (joint_variables c.args.pred.now c.args.system.now) c.args.system.now.rows = c.in_ok-verdict.ensures.value ∙ ap₂ verdict_of c.variables.ensures.value (c.deref.ensures.value ∙ ap (λ (x : System). x.rows) c.system.view_is) in
    sym (append-nil c.args.found.now.items) ∙ ap (λ (ds : List Dependence). c.args.found.now.items ++ ds) (sym (met-none c.args.pred.now c.args.system.now (sym is ∙ c.in-Empty.is)))

pub returns-in_ok-push-in_default : goal.returns-in_ok-push-in_default
returns-in_ok-push-in_default g c =
    let is : c.in_ok-verdict.verdict ≡ verdict_of (joint_variables c.args.pred.now c.args.system.now) c.args.system.now.rows = c.in_ok-verdict.ensures.value ∙ ap₂ verdict_of c.variables.ensures.value (c.deref.ensures.value ∙ ap (λ (x : System). x.rows) c.system.view_is) in
    c.in_ok-push-in_default.ensures.items
    ∙ ap (λ (x : System). c.args.found.now.items ++ record { first = x.first; second = x.second; case = x.case; verdict = c.in_ok-verdict.verdict } ∷ []) c.system.view_is
    ∙ ap (λ (ds : List Dependence). c.args.found.now.items ++ ds) (sym (met-some c.args.pred.now c.args.system.now c.in_ok-verdict.verdict (sym is) c.in_default.not-Empty))
