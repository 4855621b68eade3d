-- Drawn numbers: a sequence of numbers below 2^64 that begins at a seed, and what a draw makes of one.
use Rattle.std.specs.Prelude.{ℕ, zero, suc, ◌+◌, ◌*◌, ◌/◌, ◌%◌, ◌^◌}

abbrev pub multiplier : ℕ
multiplier = 6364136223846793005

abbrev pub increment : ℕ
increment = 1442695040888963407

-- the number behind x in the sequence
abbrev pub next : ℕ → ℕ
next x = (x * multiplier + increment) % 2 ^ 64

-- the number that so many draws lead to from a seed
abbrev pub after : ℕ → ℕ → ℕ
after seed zero = seed
after seed (suc draws) = next (after seed draws)

-- what a draw below `most` makes of the number x
abbrev pub drawn : ℕ → ℕ → ℕ
drawn most x = (x / 2 ^ 33) % most

-- the draw behind so many others
abbrev pub draw : ℕ → ℕ → ℕ → ℕ
draw seed before most = drawn most (after seed (before + 1))
