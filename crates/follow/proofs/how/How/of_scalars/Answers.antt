use Rattle.std.proofs.Common.{◌≡◌, ◌<◌, ◌∙◌, sym, subst, ℕ, ℤ, pos, FitsSigned, w64, get_or, length, ⊎_elim, arith, rules}
use Rattle.std.proofs.lemmas.Bool.{cases_lt}
use Rattle.follow.proofs.DifferingLaws.{differ-after}
use Rattle.follow.proofs.how.How.of_scalars.Goals as goal

pub loop-number-preserved : goal.loop-number-preserved
loop-number-preserved g c =
    let n = c.loop-number.number in
    let ws = g.E.Expected.after c.args.expected.now in
    let xs = c.args.scalars.now in
    let inside : n < length xs = search rules in
    let read : get_or xs n (pos 0) ≡ c.from.result = search rules in
    let wanted : get_or ws n (pos 0) ≡ c.from.result = search rules in
    let small : FitsSigned w64 (get_or xs n (pos 0)) = search rules in
    record {
      rest = c.loop-number.invariant.rest ∙ differ-after ws xs n c.from.result inside read wanted;
      fits = λ k below.
          ⊎_elim (λ l. c.loop-number.invariant.fits k l)
          (λ l. let here : n ≡ k = omega arith in subst (λ (m : ℕ). FitsSigned w64 (get_or ws m (pos 0))) here (subst (λ (z : ℤ). FitsSigned w64 z) (read ∙ sym wanted) small))
          (cases_lt k n);
    }
