use Rattle.std.proofs.Common.{◌∙◌, sym, ◌<◌, length, pos, arith, rules}
use Rattle.domain.proofs.PointLaws.{cut-set-after, zeros-more, cut-same}
use Rattle.skeletons.proofs.side.cut.Goals as goal

pub loop-place-preserved : goal.loop-place-preserved
loop-place-preserved g c =
    let room : c.loop-place.place < length c.loop-place.point = omega arith in
    record {
      long = search rules;
      same = cut-set-after c.args.places c.loop-place.place (pos 0) c.loop-place.point (omega arith) ∙ c.loop-place.invariant.same;
      zeros = zeros-more c.args.places c.loop-place.place c.loop-place.point c.loop-place.invariant.zeros;
    }

pub returns : goal.returns
returns g c = sym (cut-same c.args.places c.loop-place.point (λ k from to. c.loop-place.invariant.zeros k from (omega arith))) ∙ c.loop-place.invariant.same
