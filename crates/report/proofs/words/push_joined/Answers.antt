use Rattle.std.proofs.Common.{◌≡◌, ◌∷◌, rules}
use Rattle.std.proofs.lemmas.Result.{on_ok_weaker}
use Rattle.report.proofs.PhraseLaws.{joined-numbers}
use Rattle.report.proofs.words.push_joined.Goals as goal

pub returns : goal.returns
returns c =
    let split : c.args.numbers.now ≡ c.in-Some.first.now ∷ c.in-Some.rest.now = search rules in
    on_ok_weaker c.push_others.result (λ so. joined-numbers _ _ _ _ _ _ split c.in_ok-write.ensures.bytes so) c.push_others.ensures
