use Rattle.std.proofs.Common.{◌≡◌, ◌≤◌, ◌∙◌, sym, pos, FitsSigned, w64, get_or, length, arith, rules}
use Rattle.std.proofs.lemmas.List.{take_all}
use Rattle.follow_chunk.specs.Predicted.{scalars_at}
use Rattle.follow_chunk.proofs.PredictingLaws.{scalar-set, length-scalars}
use Rattle.follow_chunk.proofs.expect.begin.Goals as goal

pub loop-number-preserved : goal.loop-number-preserved
loop-number-preserved g c =
    let n = c.loop-number.number in
    let fits : FitsSigned w64 (get_or (scalars_at c.args.pred.now c.args.inst.now) n (pos 0)) = c.requires.fits n in
    let wanted = c.expected_scalar.ensures in
    scalar-set c.args.pred.now c.args.inst.now c.loop-number.scalars n _ (search rules) (search rules) c.loop-number.invariant (search rules)

pub returns : goal.returns
returns g c =
    let n = c.loop-number.number in
    let xs = c.loop-number.scalars in
    let ys = scalars_at c.args.pred.now c.args.inst.now in
    let size = length-scalars c.args.pred.now c.args.inst.now in
    let count = c.requires.count in
    let kept : length xs ≡ length c.args.scalars.now = search rules in
    let whole : length c.args.scalars.now ≤ n = search rules in
    sym (take_all n xs (omega (arith, kept, whole))) ∙ c.loop-number.invariant ∙ take_all n ys (omega (arith, size, count, whole))
