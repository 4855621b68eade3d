use Rattle.std.proofs.Common.{◌≡◌, sym, subst, ◌<◌, zero, suc, ℤ, pos, ◌≤ℤ◌, [], ◌∷◌, length, FitsSigned, w64, lit<, arith}
use Rattle.std.proofs.lemmas.Int.{ints, to_z-of_z}
use Rattle.domain.specs.Instances.{Instance, instance}
use Rattle.domain.specs.Steps.{CanTurn}
use Rattle.domain.proofs.tests.after.Goals as goal

two-turn : (a b : ℤ) → a ≤ℤ pos 100 → b ≤ℤ pos 100 → CanTurn (a ∷ b ∷ [])
two-turn a b h k zero = omega (arith, ints)
two-turn a b h k (suc zero) = omega (arith, ints)
two-turn a b h k (suc (suc n)) = omega (arith, ints)

pub successor-requires : goal.successor-requires
successor-requires c =
    let outer : FitsSigned w64 c.args.outer = c.ranges.outer in
    let inner : FitsSigned w64 c.args.inner = c.ranges.inner in
    let e : c.instance.result ≡ instance c.args.block (c.args.outer ∷ c.args.inner ∷ []) = simp to_z-of_z at c.instance.ensures in (
      lit< tt,
      (
        lit< tt,
        (
          lit< tt,
          (
            subst (λ (x : Instance). x.block < length c.args.pred.now.blocks) (sym e) (omega (arith, c.requires.two, c.requires.block)),
            subst (λ (x : Instance). CanTurn x.at) (sym e) (two-turn c.args.outer c.args.inner c.requires.outer c.requires.inner),
          ),
        ),
      ),
    )
