-- The value of digits.
use Rattle.std.proofs.Common.{◌≡◌, ℕ, ◌+◌, ◌-◌, ◌*◌, ◌<◌, ◌≤◌, List, [], ◌∷◌, length, drop, get_or, drop-cons, add-one, arith, Some, None}
use Rattle.std.proofs.lemmas.List.{drop_all}
use Rattle.nest_tokens.specs.Lexing.{decimal_from, below}

pub decimal-grows : (n : ℕ) (ds : List ℕ) → n ≤ decimal_from n ds
decimal-grows n [] = omega arith
decimal-grows n (d ∷ ds) = let h : n * 10 + (d - 48) ≤ decimal_from (n * 10 + (d - 48)) ds = decimal-grows (n * 10 + (d - 48)) ds in omega arith

pub decimal-next : (ds : List ℕ) (i n : ℕ) → i < length ds → decimal_from n (drop i ds) ≡ decimal_from (n * 10 + (get_or ds i 0 - 48)) (drop (i + 1) ds)
decimal-next ds i n h = rw (drop-cons ds i 0, add-one)

pub decimal-end : (ds : List ℕ) (i n : ℕ) → length ds ≤ i → decimal_from n (drop i ds) ≡ n
decimal-end ds i n h = rw (drop_all)

pub below-not : (limit n : ℕ) → limit ≤ n → below limit n ≡ None
below-not limit n h = grind arith

pub below-yes : (limit n : ℕ) → n < limit → below limit n ≡ Some n
below-yes limit n h = grind arith

pub ruleset values = (decimal-grows, decimal-next, decimal-end, below-not, below-yes)
