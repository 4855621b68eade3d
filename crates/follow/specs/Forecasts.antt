-- Forecasts: what is expected of the instances of a nest, and which observations agree with it.
use Rattle.std.specs.Prelude.{ℕ, ◌-◌, ℤ, pos, int_lt, nat_le, List, [], ◌∷◌, length, take, get_or, Option, Bool, true, false, ◌&&◌, ◌||◌}
use Rattle.nest_lang.specs.declared.tree.BlockRef.{BlockRef}
use Rattle.nest_lang.specs.declared.observe.Seen.{Seen}
use Rattle.nest_lang.specs.declared.observe.Seen.TheVariants as see
use Rattle.nest_lang.specs.Values.{same}
use Rattle.nest_lang.specs.Lookups.{Interval, Expectation, lies_in}
use Rattle.nest_lang.specs.Traces.{Occurrence, Observation}
use Rattle.nest_lang.specs.Heads.{as_number}

-- what is expected: the scalars as an instance begins; the interval of each of its accesses, by number, where
-- there is one; the lower bound of the head of a `for`; and by the block of a head and the turn numbers around its
-- loop, the trip of that loop
pub record Forecast : Type 0 where
  pub scalars : Occurrence → List ℤ
  pub interval : Occurrence → ℕ → Option Interval
  pub lower : Occurrence → ℤ
  pub trip : BlockRef → List ℤ → ℤ

-- the turn numbers of the loops around a loop, and the turn number of that loop
abbrev pub around_last : List ℤ → List ℤ
around_last cs = take (length cs - 1) cs

abbrev pub last_of : List ℤ → ℤ
last_of cs = get_or cs (length cs - 1) (pos 0)

-- the condition of a `while` is expected to hold: of an outermost loop before each turn, and else where the turn
-- number is below the trip
abbrev pub expects_turn : Forecast → Occurrence → Bool
expects_turn p i = nat_le i.block.level 1 || int_lt (last_of i.counters) (p.trip i.block (around_last i.counters))

-- a value agrees where it is the expected one, or lies in the expected interval. That an instance is due is no
-- observation of its own.
abbrev pub agrees_by : Forecast → Occurrence → Seen → ℤ → Bool
agrees_by p i see.Start v = true
agrees_by p i (see.Scalar number) v = same v (get_or (p.scalars i) number (pos 0))
agrees_by p i (see.Address access) v = lies_in (p.interval i access) v
agrees_by p i see.Lower v = same v (p.lower i)
agrees_by p i see.Trip v = same v (p.trip i.block i.counters)
agrees_by p i see.Condition v = same v (as_number (expects_turn p i))

abbrev pub agrees : Forecast → Observation → Bool
agrees p o = agrees_by p o.at o.what o.value

-- each of these observations agrees
unfoldable pub all_agree : Forecast → List Observation → Bool
all_agree p [] = true
all_agree p (o ∷ os) = agrees p o && all_agree p os

-- each of these scalars is the expected one, and they are as many
abbrev pub same_all : List ℤ → List ℤ → Bool
same_all [] [] = true
same_all (x ∷ xs) (y ∷ ys) = same x y && same_all xs ys
same_all [] (y ∷ ys) = false
same_all (x ∷ xs) [] = false

-- what is expected of the addresses of an instance, as they are verified
abbrev pub expectation_at : Forecast → Occurrence → Expectation
expectation_at p i = record { verifies = true; loads = p.interval i; stores = p.interval i }
