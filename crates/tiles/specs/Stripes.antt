-- Which addresses a stripe means.
use Rattle.std.specs.Prelude.{ℕ, ℤ, ◌<◌, pos, ◌+ℤ◌, ◌*ℤ◌, ◌≤ℤ◌, ◌<ℤ◌, List, map, unsigned_abs}
use Rattle.std.specs.List.{flat_map, range_with_len}
use Rattle.tiles.specs.declared.stripe.Stripe.{Stripe}

-- the address number k of a stripe, from 0
abbrev pub address_at : Stripe → ℕ → ℤ
address_at stripe k = pos stripe.first +ℤ stripe.step *ℤ pos k

-- each address of the stripe is that of one of n words
abbrev pub IsWithin : ℕ → Stripe → Type 0
IsWithin n stripe = (k : ℕ) → k < stripe.count → (pos 0 ≤ℤ address_at stripe k) × (address_at stripe k <ℤ pos n)

-- the addresses of a stripe whose addresses are those of words, in order
abbrev pub addresses_of : Stripe → List ℕ
addresses_of stripe = map (λ k. unsigned_abs (address_at stripe k)) (range_with_len 0 stripe.count)

-- those of all stripes, one stripe after another
abbrev pub addresses_of_all : List Stripe → List ℕ
addresses_of_all stripes = flat_map addresses_of stripes
