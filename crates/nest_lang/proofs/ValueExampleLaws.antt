-- The examples of values.
use Rattle.std.proofs.Common.{refl}
use Rattle.nest_lang.specs.Values.{apply_of, negate_of, trip_count}
use Rattle.nest_lang.specs.Examples.{ValueExamples}

pub values-computed : ValueExamples
unfolding apply_of negate_of trip_count
values-computed = record {
  overflow = refl;
  zero_divisor = refl;
  toward_zero = refl;
  sign_of_dividend = refl;
  least_by_minus_one = refl;
  least_negated = refl;
  falling_trip = refl;
  longest_trip = refl;
}
