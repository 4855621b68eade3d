-- Where a run stands.
use Rattle.std.proofs.Common.{◌≡◌, refl, ap, sym, subst, ℕ, suc, ◌+◌, ◌≤◌, ◌^◌, ℤ, pos, ◌+ℤ◌, List, [], ◌∷◌, ◌++◌, length, take, FitsSigned, w64, arith}
use Rattle.std.proofs.lemmas.Int.{ints}

-- the number of each turn is an i64, since each turn takes a step
pub number-fits : (next : ℤ) (turn left used : ℕ) → next ≡ pos turn → turn ≤ used → left + used ≤ 2 ^ 32 → FitsSigned w64 (next +ℤ pos left)
number-fits next turn left used is few most =
    let sum : FitsSigned w64 (pos (turn + left)) = omega (arith, ints, few, most) in
    subst (λ (z : ℤ). FitsSigned w64 (z +ℤ pos left)) (sym is) sum

-- the front of a list, where what follows was laid behind it
pub take-front : (n : ℕ) (xs ys : List ℤ) → n ≡ length xs → take n (xs ++ ys) ≡ xs
take-front n [] ys is = rw is refl
take-front n (x ∷ xs) ys is = let next : n ≡ suc (length xs) = omega (arith, is) in rw next (ap (λ (zs : List ℤ). x ∷ zs) (take-front (length xs) xs ys refl))
