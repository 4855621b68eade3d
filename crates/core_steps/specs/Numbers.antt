-- Lists of numbers that stand for sets.
use Rattle.std.specs.Prelude.{◌≡◌, ℕ, ◌==◌, Bool, false, not, List, [], ◌∷◌, filter}
use Rattle.std.specs.List.{list_any}

-- x stands in the list
abbrev pub has : ℕ → List ℕ → Bool
has x ys = list_any (λ y. y == x) ys

-- the list without x
abbrev pub without : ℕ → List ℕ → List ℕ
without x ys = filter (λ y. not (y == x)) ys

-- no number stands twice in the list
abbrev pub IsSingle : List ℕ → Type 0
IsSingle [] = Unit {0}
IsSingle (x ∷ xs) = (has x xs ≡ false) × IsSingle xs
