use Rattle.std.proofs.Common.{◌∙◌, ap₂, sym, List, ℤ, ◌++◌, ◌∷◌, [], arith, rules}
use Rattle.std.specs.Int.{w128}
use Rattle.std.proofs.lemmas.Int.{to_z-of_z}
use Rattle.std.proofs.lemmas.List.{take_all}
use Rattle.follow_chunk.specs.Predicted.{scalars_at}
use Rattle.follow_chunk.proofs.PredictingLaws.{scalar-next, length-scalars}
use Rattle.follow_chunk.proofs.expect.scalars_at.Goals as goal

pub loop-number-preserved : goal.loop-number-preserved
loop-number-preserved g c =
    let room = c.requires.count in
    let test = c.loop-number-test.true in
    let read = to_z-of_z w128 c.expected_scalar.result (search rules) in
    c.push.ensures.items ∙ ap₂ (λ (xs : List ℤ) (v : ℤ). xs ++ v ∷ []) c.loop-number.invariant read
    ∙ sym (scalar-next c.args.pred.now c.args.inst.now c.loop-number.number c.expected_scalar.result (omega arith) c.expected_scalar.ensures)

pub returns : goal.returns
returns g c =
    let size = length-scalars c.args.pred.now c.args.inst.now in
    let all = c.requires.count in
    c.loop-number.invariant ∙ take_all c.loop-number.number (scalars_at c.args.pred.now c.args.inst.now) (omega arith)
