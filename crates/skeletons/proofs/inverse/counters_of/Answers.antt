use Rattle.std.proofs.Common.{◌∙◌, ◌<◌, pos, length, get_or, refl, FitsSigned, rules, arith}
use Rattle.std.specs.Int.{w128}
use Rattle.std.proofs.Math.ListN.{length-set}
use Rattle.std.proofs.lemmas.Int.{to_z-of_z}
use Rattle.transform.proofs.LineLaws.{set-kept, set-more}
use Rattle.domain.specs.Instances.{counter}
use Rattle.skeletons.proofs.FrameLaws.{is-cut}
use Rattle.skeletons.proofs.inverse.counters_of.Goals as goal

pub loop-place-preserved : goal.loop-place-preserved
loop-place-preserved g c =
    let fits = c.requires.fits c.loop-place.place in
    let wide : FitsSigned w128 (get_or c.args.point.now c.loop-place.place (pos 0)) = search rules in
    let i = c.loop-place.invariant in
    let long = i.long in
    let inside : c.loop-place.place < length c.loop-place.at = omega arith in
    simp to_z-of_z (record {
      long = length-set c.loop-place.at c.loop-place.place (get_or c.args.point.now c.loop-place.place (pos 0)) ∙ i.long;
      done = λ k l. set-more c.loop-place.at c.loop-place.place (get_or c.args.point.now c.loop-place.place (pos 0)) 0 (λ j. counter c.args.point.now j) inside refl (λ j from below. i.done j below) k (omega arith) l;
      rest = λ k l. set-kept c.loop-place.at c.loop-place.place (get_or c.args.point.now c.loop-place.place (pos 0)) (pos 0) k (λ e. omega arith) (i.rest k (omega arith));
    })

pub returns : goal.returns
returns g c =
    let i = c.loop-place.invariant in
    is-cut c.args.count c.args.point.now c.loop-place.at (omega arith) (λ k l. i.done k (omega arith)) (λ k l. i.rest k (omega arith))
