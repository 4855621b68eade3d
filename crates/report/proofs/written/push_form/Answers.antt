use Rattle.std.proofs.Common.{FitsSigned, rules, to_z-of_z, w64}
use Rattle.std.proofs.lemmas.Result.{on_ok_weaker}
use Rattle.report.specs.Lines.{tube_words}
use Rattle.report.proofs.PhraseLaws.{form-words}
use Rattle.report.proofs.written.push_form.Goals as goal

pub returns : goal.returns
returns c =
    let constant : FitsSigned w64 c.args.constant = search rules in
    let low : FitsSigned w64 c.args.low = search rules in
    let high : FitsSigned w64 c.args.high = search rules in
    let number = simp to_z-of_z at c.in_ok-write.ensures.bytes in
    let tube = simp to_z-of_z at c.push_tube.ensures in
    on_ok_weaker c.push_tube.result (λ so. form-words c.args.coefficients.now c.args.constant (tube_words c.args.low c.args.high) _ _ _ _ c.in_ok-push_others.ensures number so) tube
