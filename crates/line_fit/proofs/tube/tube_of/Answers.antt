use Rattle.std.proofs.Common.{FitsSigned, to_z, rules}
use Rattle.std.specs.Int.{w128}
use Rattle.std.proofs.lemmas.Int.{to_z-of_z}
use Rattle.line_fit.proofs.TubeLaws.{tube-one, tube-more, min-size, max-size}
use Rattle.line_fit.proofs.tube.tube_of.Goals as goal

pub loop-place-init : goal.loop-place-init
loop-place-init g c =
    let fits : FitsSigned w128 c.residual_at-first.result = search rules in
    record { tube = simp to_z-of_z (tube-one c.args.line.now c.args.samples.now c.residual_at-first.result c.residual_at-first.ensures.value); low = simp to_z-of_z c.residual_at-first.ensures.size; high = simp to_z-of_z c.residual_at-first.ensures.size }

pub loop-place-preserved : goal.loop-place-preserved
loop-place-preserved g c =
    let fits : FitsSigned w128 c.residual_at-residual.result = search rules in
    let least : FitsSigned w128 c.min-low.result = search rules in
    let greatest : FitsSigned w128 c.max-high.result = search rules in
    let read = to_z-of_z w128 c.residual_at-residual.result fits in
    let less = rw read at c.min-low.ensures in
    let more = rw read at c.max-high.ensures in
    record {
      tube = rw (to_z-of_z w128 c.min-low.result least, to_z-of_z w128 c.max-high.result greatest)
          (tube-more c.args.line.now c.args.samples.now c.loop-place.place _ _ c.residual_at-residual.result c.min-low.result c.max-high.result c.loop-place.invariant.tube c.residual_at-residual.ensures.value less.value less.self_bound less.other_bound more.value more.self_bound more.other_bound);
      low = rw (to_z-of_z w128 c.min-low.result least) (min-size (to_z w128 c.loop-place.low-bits) c.residual_at-residual.result c.min-low.result _ less.value c.loop-place.invariant.low c.residual_at-residual.ensures.size);
      high = rw (to_z-of_z w128 c.max-high.result greatest) (max-size (to_z w128 c.loop-place.high-bits) c.residual_at-residual.result c.max-high.result _ more.value c.loop-place.invariant.high c.residual_at-residual.ensures.size);
    }
