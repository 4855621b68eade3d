use Rattle.std.proofs.Common.{◌≡◌, ◌≢◌, ◌<◌, ℕ, ℤ, pos, List, length, set, get_or, to_z, of_z, w64, arith, rules, get_or-set_other, get_or-set_same, length-set, below_more, ◌∙◌}
use Rattle.compare.proofs.OccurringLaws.{point-is}
use Rattle.compare.proofs.occurrence.padded.Goals as goal

set-here : (xs : List ℤ) (i : ℕ) (v w : ℤ) → i < length xs → v ≡ w → get_or (set xs i v) i (pos 0) ≡ w
set-here xs i v w inside e = rw get_or-set_same e

pub loop-place-preserved : goal.loop-place-preserved
loop-place-preserved g c =
    let inside : c.loop-place.place < length c.loop-place.at = let s = c.loop-place.invariant.size in let t = c.loop-place-test.true in omega arith in
    let same : to_z w64 (of_z w64 c.number_at.result) ≡ get_or c.args.counters.now c.loop-place.place (pos 0) = search rules in
    record {
      size = length-set _ _ _ ∙ c.loop-place.invariant.size;
      same = below_more _ _
          (λ k h. let ne : k ≢ c.loop-place.place = omega arith in rw get_or-set_other (c.loop-place.invariant.same k h))
          (set-here c.loop-place.at c.loop-place.place _ _ inside same);
    }

pub returns : goal.returns
returns g c = point-is _ c.loop-place.at c.args.counters.now c.loop-place.invariant.size (λ j l. c.loop-place.invariant.same j (let t = c.loop-place-test.false in omega arith))
