use Rattle.std.proofs.Common.{◌≡◌, ◌<◌, ◌∙◌, sym, pos, length, slice_index_or, FitsSigned, w64, rules, arith}
use Rattle.std.proofs.Math.ListN.{length-set}
use Rattle.std.proofs.lemmas.Int.{to_z-of_z}
use Rattle.std.proofs.lemmas.List.{take_all}
use Rattle.affine.proofs.MatrixLaws.{map-range-step}
use Rattle.profile.proofs.gather.padded.Goals as goal

pub loop-place-preserved : goal.loop-place-preserved
loop-place-preserved g c =
    let room : c.loop-place.place < length c.loop-place.at = omega arith in
    let fits : FitsSigned w64 c.counter_at.result = search rules in
    let read = to_z-of_z w64 c.counter_at.result fits in
    record {
      long = simp length-set (c.loop-place.invariant.long);
      done = map-range-step (λ k. slice_index_or c.args.counters.now k (pos 0)) c.loop-place.at c.loop-place.place _ room (read ∙ c.counter_at.ensures) c.loop-place.invariant.done;
    }

pub returns : goal.returns
returns g c =
    let ended : c.loop-place.place ≡ g.row.D = omega arith in
    sym (take_all g.row.D c.loop-place.at (omega arith)) ∙ rw ended at c.loop-place.invariant.done
