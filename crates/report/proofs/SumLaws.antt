-- The sum of words, one more of which is added.
use Rattle.std.proofs.Common.{◌≡◌, ◌∙◌, ap, sym, ℕ, suc, ◌+◌, ◌*◌, ◌<◌, ◌^◌, ℤ, pos, ◌+ℤ◌, ◌≤ℤ◌, List, ◌∷◌, drop, length, get_or, FitsSigned, w64, arith, drop-cons}
use Rattle.std.proofs.lemmas.Int.{ints}
use Rattle.report.specs.Summaries.{sum}

-- of the first i words the sum is this
pub record SumIs (words : List ℤ) (i : ℕ) (at : ℤ) : Type 0 where
  pub rest : at +ℤ sum (drop i words) ≡ sum words
  pub from : (pos 0 +ℤ at) ≤ℤ pos (2 ^ 63 * i)
  pub to : pos 0 ≤ℤ (at +ℤ pos (2 ^ 63 * i))

pub one-more : (words : List ℤ) (i : ℕ) (at word d : ℤ) → i < length words → word ≡ get_or words i d → FitsSigned w64 word → SumIs words i at → SumIs words (i + 1) (at +ℤ word)
one-more words i at word d below here fits before =
    let split : sum (drop i words) ≡ word +ℤ sum (drop (suc i) words) = ap sum (drop-cons words i d below) ∙ ap (λ (w : ℤ). w +ℤ sum (drop (suc i) words)) (sym here) in
    let next : suc i ≡ i + 1 = omega arith in
    let tail : sum (drop (suc i) words) ≡ sum (drop (i + 1) words) = ap (λ n. sum (drop n words)) next in
    let rest = before.rest in let from = before.from in let to = before.to in
    let least = fits.sfits in
    record { rest = omega (arith, ints, split, tail, rest); from = omega (arith, ints, least, from); to = omega (arith, ints, least, to) }
