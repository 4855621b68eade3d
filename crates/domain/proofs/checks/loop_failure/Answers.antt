use Rattle.std.proofs.Common.{◌∙◌, sym, ap, FitsSigned, w64, rules}
use Rattle.std.specs.Int.{w128}
use Rattle.std.proofs.lemmas.Int.{to_z-of_z}
use Rattle.domain.specs.declared.table.LoopKind.{LoopKind}
use Rattle.domain.specs.Launches.{loop_failure}
use Rattle.domain.proofs.checks.loop_failure.Goals as goal

pub returns-in-For : goal.returns-in-For
returns-in-For g c =
    let r : FitsSigned w128 c.args.trip = c.ranges.trip in
    let s : FitsSigned w64 c.in-For.stride = search rules in
    let e = simp to_z-of_z at (c.for_failure.ensures c.args.turn) in
    e ∙ ap (λ (k : LoopKind). loop_failure k c.args.lower.now c.args.trip c.args.turn c.args.at.now) (sym c.in-For.is)
