-- Kept: values that were seen, as they are kept.
use Rattle.std.specs.Prelude.{◌^◌, ℤ, pos, negsuc, nat_lt, Bool, false, if◌then◌else◌}
use Rattle.nest_lang.specs.declared.observe.Seen.{Seen}
use Rattle.nest_lang.specs.declared.observe.Seen.TheVariants as see
use Rattle.nest_lang.specs.Values.{is_i64}
use Rattle.nest_lang.specs.Traces.{Observation}
use Rattle.follow.specs.Deviations.{Deviation, Differs, Halts, Limit}

-- the number is a u64
abbrev pub is_u64 : ℤ → Bool
is_u64 (pos n) = nat_lt n (2 ^ 64)
is_u64 (negsuc n) = false

-- the value where it is an i64, as each scalar, address and lower bound of a run of i64s is; another one isn't kept
abbrev pub kept_i64 : ℤ → ℤ
kept_i64 v = if is_i64 v then v else pos 0

-- the value where it is a u64, as each trip of a run of i64s is
abbrev pub kept_u64 : ℤ → ℤ
kept_u64 v = if is_u64 v then v else pos 0

abbrev pub kept_by : Seen → ℤ → ℤ
kept_by see.Start v = v
kept_by (see.Scalar number) v = kept_i64 v
kept_by (see.Address access) v = kept_i64 v
kept_by see.Lower v = kept_i64 v
kept_by see.Trip v = kept_u64 v
kept_by see.Condition v = v

abbrev pub kept : Observation → Observation
kept o = record o { value = kept_by o.what o.value }

-- a deviation, with its seen value as it is kept
abbrev pub kept_deviation : Deviation → Deviation
kept_deviation (Differs seen) = Differs (kept seen)
kept_deviation (Halts halt) = Halts halt
kept_deviation Limit = Limit
