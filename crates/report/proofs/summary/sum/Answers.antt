use Rattle.std.proofs.Common.{◌≡◌, ◌<◌, ◌+◌, ◌+ℤ◌, ◌∙◌, pos, length, get_or, subst, sym, FitsSigned, arith, rules, to_z, w64}
use Rattle.std.specs.Int.{w128}
use Rattle.std.proofs.lemmas.Int.{to_z-of_z}
use Rattle.report.proofs.SumLaws.{SumIs, one-more}
use Rattle.report.proofs.summary.sum.Goals as goal

pub loop-word-preserved : goal.loop-word-preserved
loop-word-preserved c =
    let words = c.args.words.now in
    let i = c.loop-word.word-index in
    let at = to_z w128 c.loop-word.sum-bits in
    let element : FitsSigned w64 (get_or words i (pos 0)) = search rules in
    let inside : i < length words = omega arith in
    let fits : FitsSigned w128 c.from-sum.result = search rules in
    let is : c.from-sum.result ≡ get_or words i (pos 0) = c.from-sum.ensures ∙ to_z-of_z w64 _ element in
    let within : FitsSigned w64 c.from-sum.result = subst (FitsSigned w64) (sym is) element in
    let more : SumIs words (i + 1) (at +ℤ c.from-sum.result) = one-more words i at c.from-sum.result (pos 0) inside is within c.loop-word.invariant in
    let both : FitsSigned w128 (at +ℤ c.from-sum.result) = search rules in
    simp to_z-of_z more
