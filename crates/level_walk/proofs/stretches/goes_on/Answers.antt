use Rattle.std.proofs.Common.{rules, ◌≡◌, sym, ap, ◌∙◌, List, ℤ, ◌+ℤ◌, pos, int_cmp, FitsSigned, w64}
use Rattle.std.specs.Cmp.Lexicographic.{slice_cmp}
use Rattle.std.proofs.lemmas.Int.{to_z-of_z}
use Rattle.std.proofs.lemmas.Cmp.{int_cmp_total, lists_total, tied_itself}
use Rattle.plain_lemmas.proofs.OrderLaws.{slice_cmp-exact}
use Rattle.level_walk.proofs.stretches.goes_on.Goals as goal

pub returns-in-Equal-clause-on : goal.returns-in-Equal-clause-on
returns-in-Equal-clause-on c = λ t.
    let h : FitsSigned w64 c.args.run.now.high = search rules in
    let l : FitsSigned w64 c.args.next.now.low = search rules in
    let next : c.args.run.now.high +ℤ pos 1 ≡ c.args.next.now.low = simp to_z-of_z at (c.is_next.ensures.next t) in
    (sym c.as_slice.ensures.value ∙ slice_cmp-exact c.as_slice.result.now c.as_slice-2.result.now (sym c.cmp.ensures ∙ c.in-Equal.is) ∙ c.as_slice-2.ensures.value, next)

pub returns-in_default-clause-apart : goal.returns-in_default-clause-apart
returns-in_default-clause-apart c = λ f e next.
    let same = c.as_slice.ensures.value ∙ e ∙ sym c.as_slice-2.ensures.value in
    c.in_default.not-Equal (c.cmp.ensures ∙ ap (λ (xs : List ℤ). slice_cmp int_cmp xs c.as_slice-2.result.now) same ∙ tied_itself (lists_total int_cmp_total) c.as_slice-2.result.now)
