use Rattle.std.proofs.Common.{FitsSigned, lit<, rules}
use Rattle.std.specs.Int.{w128}
use Rattle.std.proofs.lemmas.Int.{to_z-of_z}
use Rattle.std.proofs.lemmas.Slice.Zip.{Zip-more, either_empty_from_Zip}
use Rattle.fourier_motzkin.proofs.CombinationLaws.{weighted-more, weighted-end, weighted-room, weighted-room-more, pushed-within}
use Rattle.refutation.proofs.adding.weighted_sums.Goals as goal

pub push-requires : goal.push-requires
push-requires c =
    let rest = Zip-more c.loop-x.x-iterator c.next.new.self c.next.result (c.in-Some.x, c.in-Some.y) c.in-Some.is c.next.ensures.steps in
    (lit< tt, weighted-room _ _ _ _ _ rest.0 c.loop-x.invariant.room c.requires.few)

pub loop-x-preserved : goal.loop-x-preserved
loop-x-preserved c =
    let rest = Zip-more c.loop-x.x-iterator c.next.new.self c.next.result (c.in-Some.x, c.in-Some.y) c.in-Some.is c.next.ensures.steps in
    let q = c.ranges.p in
    let p = c.ranges.q in
    let x : FitsSigned w128 c.in-Some.x.now = search rules in
    let y : FitsSigned w128 c.in-Some.y.now = search rules in
    let r : FitsSigned w128 c.weighted_sum.result = search rules in
    let items = simp to_z-of_z at c.push.ensures.items in
    let value = simp to_z-of_z at c.weighted_sum.ensures.value in
    record {
      value = simp to_z-of_z (weighted-more c.args.p c.args.q c.in-Some.x.now c.in-Some.y.now c.weighted_sum.result _ _ _ _ _ _ _ rest.0 rest.1 items value (simp to_z-of_z at c.loop-x.invariant.value));
      room = weighted-room-more _ _ _ _ _ _ _ rest.0 items c.loop-x.invariant.room;
      size = pushed-within _ _ _ _ items c.weighted_sum.ensures.size c.loop-x.invariant.size;
    }

pub returns-clause-value : goal.returns-clause-value
returns-clause-value c =
    let q = c.ranges.p in
    let p = c.ranges.q in
    weighted-end c.args.p c.args.q _ _ _ _ (either_empty_from_Zip c.loop-x.x-iterator c.next.new.self c.next.result c.in-None.is c.next.ensures.steps) (simp to_z-of_z at c.loop-x.invariant.value)
