-- The text of each shape: words and numbers, one behind another.
use Rattle.std.specs.Prelude.{ℕ, ◌+◌, ◌*◌, ◌-◌, List, [], ◌∷◌, ◌++◌, codes, map}
use Rattle.std.specs.List.{concat, flat_map, range_with_len}
use Rattle.std.specs.Fmt.{decimal}
use Rattle.nest_gen.specs.Draws.{draw}

-- n words are copied behind themselves, and a number is added to each
abbrev pub copy_of : ℕ → ℕ → List ℕ
copy_of n k = concat (
    codes "nest 1 memory " ∷ decimal (2 * n) ∷ codes " for i = 0 below " ∷ decimal n ∷ codes " { [" ∷ decimal n ∷ codes " + i] = [i] + " ∷ decimal k ∷ codes " }" ∷ [])

abbrev pub copy_text : ℕ → ℕ → List ℕ
copy_text seed size = copy_of (64 * size) (draw seed 0 100)

-- node j of n is followed by a node behind all n, which is followed by node j + 1
abbrev pub shortcut : ℕ → ℕ → List ℕ
shortcut n j = concat (
    codes "data " ∷ decimal (2 * j) ∷ codes ": " ∷ decimal (2 * n + 2 + 2 * j) ∷ codes " data " ∷ decimal (2 * n + 2 + 2 * j) ∷ codes ": " ∷ decimal (4 + 2 * j) ∷ codes " " ∷ [])

-- the head of a list of n nodes, each of which is followed by the next
abbrev pub chain : ℕ → List ℕ
chain n = concat (codes "nest 1 scalar p = 2 memory " ∷ decimal (4 * n) ∷ codes " ramp 2 " ∷ decimal (n - 1) ∷ codes " 2 4 2 " ∷ [])

-- a list of n nodes, whose second words are counted up, with shortcuts at these nodes
abbrev pub list_of : ℕ → List ℕ → List ℕ
list_of n nodes =
    chain n ++ (flat_map (shortcut n) nodes ++ codes "while [p] { [p + 1] = [p + 1] + 1 p = [p] }")

-- 1 to 4 nodes, each from 1 on and below n - 1
abbrev pub drawn_nodes : ℕ → ℕ → List ℕ
drawn_nodes seed n = map (λ i. 1 + draw seed (i + 1) (n - 2)) (range_with_len 0 (1 + draw seed 0 4))

abbrev pub list_text : ℕ → ℕ → List ℕ
list_text seed size = list_of (64 * size) (drawn_nodes seed (64 * size))

-- a grid of m rows of m words, which grow by one from v on, and the heads of two loops over its inner words
abbrev pub rows : ℕ → ℕ → List ℕ
rows m v = concat (
    codes "nest 1 memory " ∷ decimal (m * m) ∷ codes " ramp 0 " ∷ decimal (m * m) ∷ codes " 1 " ∷ decimal v ∷ codes " 1 for i = 1 below " ∷ decimal (m - 1)
    ∷ codes " { for j = 1 below " ∷ decimal (m - 1) ∷ codes " { " ∷ [])

-- the word at row i and column j becomes the mean of those above and at its left ..
abbrev pub upper : ℕ → List ℕ
upper m = concat (codes "[" ∷ decimal m ∷ codes " * i + j] = ([" ∷ decimal m ∷ codes " * i + j - " ∷ decimal m ∷ codes "] + [" ∷ decimal m ∷ codes " * i + j - 1] + " ∷ [])

-- .. and of itself and those at its right and below
abbrev pub lower : ℕ → List ℕ
lower m = concat (
    codes "[" ∷ decimal m ∷ codes " * i + j] + [" ∷ decimal m ∷ codes " * i + j + 1] + [" ∷ decimal m ∷ codes " * i + j + " ∷ decimal m
    ∷ codes "]) / 5 } } candidate { tile 1 8; tile 2 8 }" ∷ [])

-- a sweep over a grid of m rows: each inner word becomes the mean of itself and its four neighbours
abbrev pub grid_of : ℕ → ℕ → List ℕ
grid_of m v = rows m v ++ (upper m ++ lower m)

abbrev pub grid_text : ℕ → ℕ → List ℕ
grid_text seed size = grid_of (size + 2) (draw seed 0 1000)
