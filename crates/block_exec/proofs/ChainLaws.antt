-- Chains of steps.
use Rattle.std.proofs.Common.{◌≡◌, refl, subst, List, [], ◌∷◌, ◌++◌}
use Rattle.nest_lang.specs.Traces.{Observation}
use Rattle.block_exec.specs.Watches.{Chain}

pub chain-append : {W : Type 0} (may : W → Observation → W → Type 0) (a b c : W) (xs ys : List Observation) → Chain may a xs b → Chain may b ys c → Chain may a (xs ++ ys) c
chain-append {W} may a b c [] ys p q = let P : W → Type 0 = λ w. Chain may w ys c in subst P p q
chain-append may a b c (x ∷ xs) ys (mid, step, rest) q = (mid, step, chain-append may mid b c xs ys rest q)

pub chain-one : {W : Type 0} (may : W → Observation → W → Type 0) (a b : W) (x : Observation) → may a x b → Chain may a (x ∷ []) b
chain-one may a b x p = (b, p, refl)
