use Rattle.std.proofs.Common.{◌∙◌, sym, ap, take, List, [], ◌∷◌, ◌++◌, append-nil, FitsSigned, w64, rules}
use Rattle.std.proofs.lemmas.Int.{to_z-of_z}
use Rattle.line_fit.specs.Samples.{Sample}
use Rattle.profile.proofs.GatherLaws.{read-shown}
use Rattle.profile.proofs.gather.read.Goals as goal

pub returns-in_ok-push-in-Some-clause-found : goal.returns-in_ok-push-in-Some-clause-found
returns-in_ok-push-in-Some-clause-found g c =
    let begins = c.front-at.ensures ∙ ap (take c.args.item.level) c.deref.ensures.value in
    let fits : FitsSigned w64 c.args.item.value = search rules in
    let given = rw (to_z-of_z w64 c.args.item.value fits) at c.in-Some-given_by.ensures in
    c.in_ok-push-in-Some.ensures.items ∙ ap (λ (xs : List Sample). c.args.found.now.items ++ xs)
    (read-shown g.row.D c.args.block c.args.what c.args.counters.now.items c.front-at.result.now (c.in-Some-given_by.sample ∷ []) c.args.item.shown c.in-Some.shown c.args.item.level c.args.item.value c.in-Some.is begins given)

pub returns-in_default-clause-found : goal.returns-in_default-clause-found
returns-in_default-clause-found g c =
    let begins = c.front-at.ensures ∙ ap (take c.args.item.level) c.deref.ensures.value in
    let fits : FitsSigned w64 c.args.item.value = search rules in
    let given = rw (to_z-of_z w64 c.args.item.value fits) at c.in_default.ensures in
    sym (append-nil c.args.found.now.items) ∙ ap (λ (xs : List Sample). c.args.found.now.items ++ xs)
    (read-shown g.row.D c.args.block c.args.what c.args.counters.now.items c.front-at.result.now [] c.args.item.shown c.in-Some.shown c.args.item.level c.args.item.value c.in-Some.is begins given)
