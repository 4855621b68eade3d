-- The code of one more loop.
use Rattle.std.proofs.Common.{◌≡◌, refl, ap, sym, ◌∙◌, ℕ, suc, ◌+◌, ◌<◌, ◌≤◌, List, [], ◌∷◌, ◌++◌, length, take, get_or, arith}
use Rattle.std.proofs.Math.Seq.{take-suc}
use Rattle.std.proofs.lemmas.List.{length-take-le}
use Rattle.nest_lang.specs.declared.tree.Loop.{Loop}
use Rattle.block_exec.specs.declared.nest_code.LoopCode.{LoopCode}
use Rattle.block_exec.specs.NestCodes.{IsLoopCode, AreLoopCodes}

are-append : (ls : List Loop) (cs : List LoopCode) (l : Loop) (c : LoopCode) → length ls ≡ length cs → AreLoopCodes ls cs → IsLoopCode l c → AreLoopCodes (ls ++ l ∷ []) (cs ++ c ∷ [])
are-append [] [] l c same are is = (is, tt)
are-append [] (d ∷ cs) l c same are is = absurd (omega (arith, same))
are-append (k ∷ ls) [] l c same are is = absurd (omega (arith, same))
are-append (k ∷ ls) (d ∷ cs) l c same are is =
    let rest : length ls ≡ length cs = omega (arith, same) in
    (are.0, are-append ls cs l c rest are.1 is)

pub are-next : (ls : List Loop) (cs : List LoopCode) (i : ℕ) (l : Loop) (c : LoopCode) → i < length ls → l ≡ get_or ls i l → length cs ≡ i → AreLoopCodes (take i ls) cs → IsLoopCode l c → AreLoopCodes (take (i + 1) ls) (cs ++ c ∷ [])
are-next ls cs i l c within item count are is =
    let next : i + 1 ≡ suc i = omega arith in
    let low : i ≤ length ls = omega (arith, within) in
    let shape : take (suc i) ls ≡ take i ls ++ (l ∷ []) = take-suc ls i l within ∙ ap (λ z. take i ls ++ (z ∷ [])) (sym item) in
    rw (next, shape) (are-append (take i ls) cs l c (length-take-le i ls low ∙ sym count) are is)
