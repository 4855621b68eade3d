-- Tiles without instances have none.
use Rattle.std.proofs.Common.{◌≡◌, ℕ, zero, suc, ◌≤◌, List, [], length, refl, sym, subst, lit≤}
use Rattle.domain.specs.Instances.{Instance}
use Rattle.plain_lemmas.specs.Lists.{Has}
use Rattle.orders.specs.Tiles.{flat}
use Rattle.verified_turns.specs.Progress.{list_of}
use Rattle.crew_shown.specs.Empties.{empties}

pub flat-empties : (n : ℕ) → flat (empties n) ≡ []
flat-empties zero = refl
flat-empties (suc n) = flat-empties n

list-empties : (n k : ℕ) → list_of (empties n) k ≡ []
list-empties zero k = refl
list-empties (suc n) zero = refl
list-empties (suc n) (suc k) = list-empties n k

pub none-in : (n k : ℕ) (x : Instance) → Has (list_of (empties n) k) x → ⊥
none-in n k x h = subst (λ (xs : List Instance). Has xs x) (list-empties n k) h

pub none-at-all : (n : ℕ) (x : Instance) → Has (flat (empties n)) x → ⊥
none-at-all n x h = subst (λ (xs : List Instance). Has xs x) (flat-empties n) h

pub few-empties : (n : ℕ) → length (flat (empties n)) ≤ 65536
few-empties n = subst (λ (xs : List Instance). length xs ≤ 65536) (sym (flat-empties n)) (lit≤ tt)
