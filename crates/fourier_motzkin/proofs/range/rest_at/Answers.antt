use Rattle.std.proofs.Common.{◌≤◌, ◌^◌, unsigned_abs, FitsSigned, to_z, rules}
use Rattle.std.specs.Int.{w64, w128}
use Rattle.std.proofs.lemmas.Int.{to_z-of_z}
use Rattle.std.proofs.lemmas.Slice.Zip.{Zip-more, either_empty_from_Zip}
use Rattle.fourier_motzkin.proofs.CombinationLaws.{dot-more, dot-end, long-more, size-more, within-head, within-tail}
use Rattle.fourier_motzkin.proofs.range.rest_at.Goals as goal

pub loop-number-preserved : goal.loop-number-preserved
loop-number-preserved c =
    let rest = Zip-more c.loop-number.number-iterator c.next.new.self c.next.result (c.in-Some.number, c.in-Some.value) c.in-Some.is c.next.ensures.steps in
    let x : FitsSigned w128 c.in-Some.number.now = search rules in
    let y : FitsSigned w64 c.in-Some.value.now = search rules in
    let r : FitsSigned w128 c.with_product-sum.result = search rules in
    let is = simp to_z-of_z at c.with_product-sum.ensures in
    let number : unsigned_abs c.in-Some.number.now ≤ 2 ^ 62 = within-head (2 ^ 62) _ _ _ rest.0 c.loop-number.invariant.numbers in
    let value : unsigned_abs c.in-Some.value.now ≤ 2 ^ 60 = within-head (2 ^ 60) _ _ _ rest.1 c.loop-number.invariant.values in
    record {
      value = simp to_z-of_z (dot-more c.in-Some.number.now c.in-Some.value.now (to_z w128 c.loop-number.sum-bits) c.with_product-sum.result _ _ _ _ _ rest.0 rest.1 is c.loop-number.invariant.value);
      long = long-more c.loop-number.yielded (c.in-Some.number, c.in-Some.value) _ _ _ _ rest.1 c.loop-number.invariant.long;
      numbers = within-tail (2 ^ 62) _ _ _ rest.0 c.loop-number.invariant.numbers;
      values = within-tail (2 ^ 60) _ _ _ rest.1 c.loop-number.invariant.values;
      size = simp to_z-of_z (size-more c.loop-number.yielded (c.in-Some.number, c.in-Some.value) (to_z w128 c.loop-number.sum-bits) c.with_product-sum.result c.in-Some.number.now c.in-Some.value.now is c.loop-number.invariant.size number value);
    }

pub returns-clause-value : goal.returns-clause-value
returns-clause-value c =
    dot-end (to_z w128 c.loop-number.sum-bits) _ _ _ (either_empty_from_Zip c.loop-number.number-iterator c.next.new.self c.next.result c.in-None.is c.next.ensures.steps) c.loop-number.invariant.value
