-- What happens to the bytes that a source has left and to those that a sink holds. `Some bytes` where the object
-- tells them; of an object that tells nothing, nothing is said.
use Rattle.std.specs.Prelude.{◌≡◌, ◌<◌, ◌≤◌, ℕ, List, [], ◌∷◌, ◌++◌, length, take, Option, None, Some, IfSome}
use Rattle.std.proofs.Common.{lit<, lit≤, refl}

-- these bytes were the first that were left, and are gone
abbrev pub Takes : Option (List ℕ) → Option (List ℕ) → List ℕ → Type 0
Takes before now bytes = IfSome before (λ left. (rest : List ℕ) × (left ≡ bytes ++ rest) × (now ≡ Some rest))

-- these bytes stand behind those that were held
abbrev pub Appends : Option (List ℕ) → Option (List ℕ) → List ℕ → Type 0
Appends before now bytes = IfSome before (λ held. now ≡ Some (held ++ bytes))

-- the first of the bytes that were left are gone, and not more than `limit` of them
abbrev pub TakesUpTo : ℕ → Option (List ℕ) → Option (List ℕ) → Type 0
TakesUpTo limit before now = (bytes : List ℕ) × Takes before now bytes × (length bytes ≤ limit)

-- a front of these bytes stands behind those that were held, and not all of them
abbrev pub AppendsFront : Option (List ℕ) → Option (List ℕ) → List ℕ → Type 0
AppendsFront before now bytes = (count : ℕ) × (count < length bytes) × Appends before now (take count bytes)

-- of three bytes that are left two are taken, and nothing is said of a source that doesn't tell its bytes
pub two_taken : Takes (Some (7 ∷ 8 ∷ 9 ∷ [])) (Some (9 ∷ [])) (7 ∷ 8 ∷ [])
two_taken = (9 ∷ [], refl, refl)

pub untold : Takes None None (7 ∷ 8 ∷ [])
untold = tt

pub at_most_two_taken : TakesUpTo 2 (Some (7 ∷ 8 ∷ 9 ∷ [])) (Some (8 ∷ 9 ∷ []))
at_most_two_taken = (7 ∷ [], (8 ∷ 9 ∷ [], refl, refl), lit≤ tt)

-- two bytes are put, and of two bytes the first alone
pub two_put : Appends (Some (1 ∷ [])) (Some (1 ∷ 7 ∷ 8 ∷ [])) (7 ∷ 8 ∷ [])
two_put = refl

pub one_of_two_put : AppendsFront (Some (1 ∷ [])) (Some (1 ∷ 7 ∷ [])) (7 ∷ 8 ∷ [])
one_of_two_put = (1, lit< tt, refl)
