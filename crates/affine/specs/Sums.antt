-- Sums of products, over exact whole numbers.
use Rattle.std.specs.Prelude.{ℤ, pos, ◌+ℤ◌, ◌*ℤ◌, List, [], ◌∷◌}

-- the sum of the products, place by place
abbrev pub dot : List ℤ → List ℤ → ℤ
dot [] ys = pos 0
dot (x ∷ xs) [] = pos 0
dot (x ∷ xs) (y ∷ ys) = x *ℤ y +ℤ dot xs ys

-- q times the one list and p times the other, added place by place
abbrev pub weighted : ℤ → List ℤ → ℤ → List ℤ → List ℤ
weighted q [] p ys = []
weighted q (x ∷ xs) p [] = []
weighted q (x ∷ xs) p (y ∷ ys) = (q *ℤ x +ℤ p *ℤ y) ∷ weighted q xs p ys
