-- Counts of faults: they never fall, and stand still at the last value of their type.
use Rattle.std.specs.Prelude.{◌+◌, ◌-◌, ◌^◌, ◌≤◌, ℕ, min}
use Rattle.std.proofs.Common.{lit≤}

-- the last value of a count
abbrev pub last_count : ℕ
last_count = 2 ^ 64 - 1

-- one more, or the last value again
abbrev pub next_count : ℕ → ℕ
next_count count = min (count + 1) last_count

-- the count rose, or it stands at its last value
abbrev pub Rose : ℕ → ℕ → Type 0
Rose before now = next_count before ≤ now

-- a fault at the count 4, and one at the last value
pub risen : Rose 4 5
risen = lit≤ tt

pub risen_at_the_end : Rose last_count last_count
risen_at_the_end = lit≤ tt
