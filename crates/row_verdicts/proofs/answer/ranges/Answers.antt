use Rattle.std.proofs.Common.{◌≡◌, ◌≤◌, ◌^◌, ℕ, ℤ, length, unsigned_abs, FitsSigned, to_z, of_z, w64, ap, subst, sym, length-append, arith, rules}
use Rattle.std.specs.Int.{w128}
use Rattle.std.specs.List.{All}
use Rattle.std.proofs.lemmas.Int.{to_z-of_z, fits_signed_from_abs}
use Rattle.std.proofs.lemmas.List.Elements.{All-push}
use Rattle.row_verdicts.proofs.answer.ranges.Goals as goal

-- a value of at most 2^60 in size keeps its value as a word
same-value : (x : ℤ) (n : ℕ) → FitsSigned w128 x → n ≡ unsigned_abs (to_z w128 (of_z w128 x)) → n ≤ 2 ^ 60 → unsigned_abs (to_z w64 (of_z w64 (to_z w128 (of_z w128 x)))) ≤ 2 ^ 60
same-value x n wide e small =
    let size : n ≡ unsigned_abs x = simp to_z-of_z at e in
    let fits : FitsSigned w64 x = fits_signed_from_abs w64 x (omega arith) in
    simp to_z-of_z (omega arith)

pub loop-level-preserved : goal.loop-level-preserved
loop-level-preserved c =
    let wide : FitsSigned w128 c.in-Some.least = search rules in
    let pushed = c.in_ok-push.ensures.items in
    let small = same-value c.in-Some.least c.unsigned_abs.result wide c.unsigned_abs.ensures.value c.if-unsigned_abs-gt-FAR.false in
    record {
      long = omega (arith, simp length-append at (ap length pushed));
      small = subst (All (λ value. unsigned_abs value ≤ 2 ^ 60)) (sym pushed) (All-push (λ value. unsigned_abs value ≤ 2 ^ 60) c.loop-level.point.items _ c.loop-level.invariant.small small);
    }
