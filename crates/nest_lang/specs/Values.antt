-- Values: numbers of 64 bits with a sign, computed over exact whole numbers.
use Rattle.std.specs.Prelude.{ℕ, suc, ◌^◌, ℤ, pos, negsuc, ◌+ℤ◌, ◌-ℤ◌, ◌*ℤ◌, ◌<ℤ◌, neg_ℤ, int_div, int_rem, int_lt, int_le, nat_lt, Result, Ok, Err, Bool, not, ◌&&◌, if◌then◌else◌}
use Rattle.std.specs.Int.{div_ceil}
use Rattle.nest_lang.specs.declared.tree.Op.{Op}
use Rattle.nest_lang.specs.declared.tree.Op.TheVariants.{Add, Sub, Mul, Div, Rem, Eq, Ne, Lt, Le, Gt, Ge}
use Rattle.nest_lang.specs.declared.tree.Trap.{Trap}
use Rattle.nest_lang.specs.declared.tree.Trap.TheVariants.{Overflow, ZeroDivisor}

-- the number is an i64: it lies from -2^63 to 2^63 - 1
abbrev pub is_i64 : ℤ → Bool
is_i64 (pos n) = nat_lt n (2 ^ 63)
is_i64 (negsuc n) = nat_lt n (2 ^ 63)

-- the two numbers are equal
abbrev pub same : ℤ → ℤ → Bool
same a b = int_le a b && int_le b a

-- an exact number is a value where it is an i64, and else overflows
abbrev pub exact : ℤ → Result ℤ Trap
exact z = if is_i64 z then Ok z else Err Overflow

-- a comparison is 1 where it holds and 0 where not
abbrev pub truth : Bool → Result ℤ Trap
truth b = if b then Ok (pos 1) else Ok (pos 0)

-- the value of an operator. Quotients are cut toward zero, and a remainder has the sign of its
-- dividend; a remainder overflows where its quotient does.
unfoldable pub apply_of : Op → ℤ → ℤ → Result ℤ Trap
apply_of Add a b = exact (a +ℤ b)
apply_of Sub a b = exact (a -ℤ b)
apply_of Mul a b = exact (a *ℤ b)
apply_of Div a b = if same b (pos 0) then Err ZeroDivisor else exact (int_div a b)
apply_of Rem a b = if same b (pos 0) then Err ZeroDivisor else (if is_i64 (int_div a b) then Ok (int_rem a b) else Err Overflow)
apply_of Eq a b = truth (same a b)
apply_of Ne a b = truth (not (same a b))
apply_of Lt a b = truth (int_lt a b)
apply_of Le a b = truth (int_le a b)
apply_of Gt a b = truth (int_lt b a)
apply_of Ge a b = truth (int_le b a)

-- the value with the other sign
unfoldable pub negate_of : ℤ → Result ℤ Trap
negate_of a = exact (neg_ℤ a)

-- the value of a loop's name in turn t, from 0
abbrev pub turn_value : ℤ → ℤ → ℕ → ℤ
turn_value lower stride t = lower +ℤ stride *ℤ pos t

-- turn t belongs to a `for`: its value has not reached the upper bound, in the stride's direction
abbrev pub IsTurn : ℤ → ℤ → ℤ → ℕ → Type 0
IsTurn lower upper (pos k) t = turn_value lower (pos k) t <ℤ upper
IsTurn lower upper (negsuc k) t = upper <ℤ turn_value lower (negsuc k) t

-- how many steps of a size it takes, the last one possibly short, to cover a distance, and none where the distance is negative
abbrev pub steps_over : ℤ → ℕ → ℕ
steps_over (pos distance) size = div_ceil distance size
steps_over (negsuc short) size = 0

-- the number of turns of a `for`
unfoldable pub trip_count : ℤ → ℤ → ℤ → ℕ
trip_count lower upper (pos k) = steps_over (upper -ℤ lower) k
trip_count lower upper (negsuc k) = steps_over (lower -ℤ upper) (suc k)
