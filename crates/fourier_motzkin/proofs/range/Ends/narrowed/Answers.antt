use Rattle.std.proofs.Common.{◌<ℤ◌, pos, FitsSigned, arith, rules}
use Rattle.std.specs.Int.{w128}
use Rattle.std.proofs.lemmas.Int.{to_z-of_z, ints}
use Rattle.fourier_motzkin.proofs.EndLaws.{narrowed-above, narrowed-below}
use Rattle.fourier_motzkin.proofs.range.Ends.narrowed.Goals as goal

pub returns-then-coefficient-gt0-clause-some : goal.returns-then-coefficient-gt0-clause-some
returns-then-coefficient-gt0-clause-some c =
    let coefficient = c.ranges.coefficient in
    let rest = c.ranges.rest in
    let floor : FitsSigned w128 c.floor.result = search rules in
    let least : FitsSigned w128 c.negated.result = search rules in
    let test = simp to_z-of_z at c.if-coefficient-gt0.true in
    let some : pos 0 <ℤ c.args.coefficient = grind (arith, ints) in
    let quotient = simp to_z-of_z at c.floor.ensures in
    let is = simp to_z-of_z at c.negated.ensures.value in
    let raised = simp to_z-of_z at c.raised.ensures.value in
    narrowed-below c.args.self.least c.args.self.greatest c.raised.result.least c.raised.result.greatest c.args.coefficient c.args.rest c.negated.result c.floor.result some quotient is raised

pub returns-then-coefficient-lt0-clause-some : goal.returns-then-coefficient-lt0-clause-some
returns-then-coefficient-lt0-clause-some c =
    let coefficient = c.ranges.coefficient in
    let rest = c.ranges.rest in
    let floor : FitsSigned w128 c.floor-then-coefficient-lt0.result = search rules in
    let divisor : FitsSigned w128 c.negated-then-coefficient-lt0.result = search rules in
    let test = simp to_z-of_z at c.if-coefficient-lt0.true in
    let some : c.args.coefficient <ℤ pos 0 = grind (arith, ints) in
    let quotient = simp to_z-of_z at c.floor-then-coefficient-lt0.ensures in
    let is = simp to_z-of_z at c.negated-then-coefficient-lt0.ensures.value in
    let lowered = simp to_z-of_z at c.lowered.ensures.value in
    narrowed-above c.args.self.least c.args.self.greatest c.lowered.result.least c.lowered.result.greatest c.args.coefficient c.args.rest c.floor-then-coefficient-lt0.result c.negated-then-coefficient-lt0.result some is quotient lowered
