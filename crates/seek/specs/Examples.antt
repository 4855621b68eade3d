-- Scripts of schedule lists, computed from the definition.
use Rattle.std.specs.Prelude.{◌≡◌, refl, pos, ◌∷◌, [], Some, None}
use Rattle.nest_lang.specs.declared.command.Command.TheVariants.{Skew, Swap, Tile}
use Rattle.seek.specs.ScheduleLists.{count, listed}

-- one loop has one script
one-loop : listed 1 1 ≡ Some (Tile 1 (pos 4) ∷ [])
one-loop = refl

one-loop-ends : listed 1 2 ≡ None
one-loop-ends = refl

-- two loops have eight, and the second is `skew 2 1 1; tile 1 4; tile 2 4`
two-loops : count 2 ≡ 8
two-loops = refl

second-of-two : listed 2 2 ≡ Some (Skew 2 1 (pos 1) ∷ Tile 1 (pos 4) ∷ Tile 2 (pos 4) ∷ [])
second-of-two = refl

-- the fifth is the first behind an exchange, and the eighth the fourth
exchanged : listed 2 5 ≡ Some (Swap 1 2 ∷ Tile 1 (pos 4) ∷ Tile 2 (pos 4) ∷ [])
exchanged = refl

exchanged-and-skewed : listed 2 8 ≡ Some (Swap 1 2 ∷ Skew 2 1 (pos 3) ∷ Tile 1 (pos 4) ∷ Tile 2 (pos 4) ∷ [])
exchanged-and-skewed = refl

two-loops-end : listed 2 9 ≡ None
two-loops-end = refl

-- 6 has the digits 1 and 2 in base 4: number 7 of three loops is `skew 2 1 1; skew 3 1 2; tile 1 4; tile 2 4; tile 3 4`
seventh-of-three : listed 3 7 ≡ Some (Skew 2 1 (pos 1) ∷ Skew 3 1 (pos 2) ∷ Tile 1 (pos 4) ∷ Tile 2 (pos 4) ∷ Tile 3 (pos 4) ∷ [])
seventh-of-three = refl

-- six loops have 2 times 4^5 scripts
six-loops : count 6 ≡ 2048
six-loops = refl

-- numbers are from 1, and loops from 1 to 6
no-number : listed 2 0 ≡ None
no-number = refl

no-loop : listed 0 1 ≡ None
no-loop = refl

seven-loops : listed 7 1 ≡ None
seven-loops = refl
