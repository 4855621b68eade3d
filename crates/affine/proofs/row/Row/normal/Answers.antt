use Rattle.std.proofs.Common.{FitsSigned, rules}
use Rattle.std.specs.Int.{w128}
use Rattle.std.proofs.lemmas.Int.{to_z-of_z}
use Rattle.affine.proofs.NormalLaws.{normal-from-quotients}
use Rattle.affine.proofs.row.Row.normal.Goals as goal

pub returns : goal.returns
returns c =
    let divisor : FitsSigned w128 c.divisor-divisor.result = search rules in
    let constant : FitsSigned w128 c.args.self.now.cst = search rules in
    let quotient : FitsSigned w128 c.floor.result = search rules in
    let coef = rw c.as_slice.ensures.value at (simp to_z-of_z at c.quotients.ensures) in
    let cst = simp to_z-of_z at c.floor.ensures in
    simp to_z-of_z (normal-from-quotients c.args.self.now c.divisor-divisor.result c.quotients.result.items c.floor.result c.divisor-divisor.ensures coef cst)
