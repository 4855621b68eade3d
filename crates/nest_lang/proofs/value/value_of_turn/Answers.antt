use Rattle.std.proofs.Common.{◌≡◌, ◌+ℤ◌, pos, ◌*ℤ◌, FitsSigned, w64, to_z, of_z, ℤ, arith, rules}
use Rattle.std.specs.Int.{w128}
use Rattle.std.proofs.lemmas.Int.{ints, to_z-of_z}
use Rattle.nest_lang.proofs.value.value_of_turn.Goals as goal

value-of : (lower z : ℤ) → FitsSigned w64 lower → FitsSigned w64 (lower +ℤ z) → to_z w64 (of_z w64 (to_z w128 (of_z w128 (to_z w128 (of_z w128 lower) +ℤ to_z w128 (of_z w128 z))))) ≡ lower +ℤ z
value-of lower z l f = omega (arith, ints)

pub returns : goal.returns
returns c =
    let lower : FitsSigned w64 c.args.lower = search rules in
    let narrow : FitsSigned w64 c.args.stride = search rules in
    let stride : FitsSigned w128 c.args.stride = search (rules, ints) in
    let turn : FitsSigned w128 (pos c.args.turn) = search (rules, ints) in
    let a : c.from.result ≡ c.args.lower = simp to_z-of_z at c.from.ensures in
    let b : c.from-2.result ≡ c.args.stride = simp to_z-of_z at c.from-2.ensures in
    rw (a, b, c.from-3.ensures) (simp to_z-of_z (value-of c.args.lower (c.args.stride *ℤ pos c.args.turn) lower c.requires))
