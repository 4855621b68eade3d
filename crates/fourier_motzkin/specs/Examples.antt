-- Systems with known answers, computed by the definitions.
use Rattle.std.specs.Prelude.{◌≡◌, pos, negsuc, [], ◌∷◌, refl}
use Rattle.affine.specs.Divisors.{gcd}
use Rattle.affine.specs.Rows.{normal, row_of}
use Rattle.fourier_motzkin.specs.RowSets.{tidied}
use Rattle.fourier_motzkin.specs.Elimination.{eliminated, projected}
use Rattle.fourier_motzkin.specs.Verdicts.{verdict_of}
use Rattle.fourier_motzkin.specs.declared.elimination.Eliminated.TheVariants.{Rows}
use Rattle.fourier_motzkin.specs.declared.verdicts.Ruling.TheVariants.{Empty, Maybe, Wide}

-- of two rows with equal coefficients the one with the least constant: x - 1 >= 0 and 2x - 5 >= 0 are x - 3 >= 0
tidied-least : tidied (row_of (pos 1 ∷ []) (negsuc 0) ∷ row_of (pos 2 ∷ []) (negsuc 4) ∷ []) ≡ row_of (pos 1 ∷ []) (negsuc 2) ∷ []
unfolding tidied normal gcd
tidied-least = refl

-- 3x + 3y - 4 >= 0 and -x - y + 1 >= 0
verdict-parallel : verdict_of 2 (row_of (pos 3 ∷ pos 3 ∷ []) (negsuc 3) ∷ row_of (negsuc 0 ∷ negsuc 0 ∷ []) (pos 1) ∷ []) ≡ Empty
unfolding verdict_of eliminated projected tidied normal gcd
verdict-parallel = refl

-- 4611686018427387905x + y >= 0
verdict-wide : verdict_of 2 (row_of (pos 4611686018427387905 ∷ pos 1 ∷ []) (pos 0) ∷ []) ≡ Wide
unfolding verdict_of eliminated projected tidied normal gcd
verdict-wide = refl

-- x - 1 >= 0
verdict-plane : verdict_of 2 (row_of (pos 1 ∷ pos 0 ∷ []) (negsuc 0) ∷ []) ≡ Maybe
unfolding verdict_of eliminated projected tidied normal gcd
verdict-plane = refl

-- 2x - 1 >= 0 and -2x + 1 >= 0, which the half alone meets
verdict-half : verdict_of 1 (row_of (pos 2 ∷ []) (negsuc 0) ∷ row_of (negsuc 1 ∷ []) (pos 1) ∷ []) ≡ Empty
unfolding verdict_of eliminated projected tidied normal gcd
verdict-half = refl

-- no rows at all
verdict-none : verdict_of 16 [] ≡ Maybe
unfolding verdict_of eliminated projected tidied
verdict-none = refl

-- x - y >= 0 and y - 2 >= 0 without y are x - 2 >= 0
eliminated-y : eliminated 1 (row_of (pos 1 ∷ negsuc 0 ∷ []) (pos 0) ∷ row_of (pos 0 ∷ pos 1 ∷ []) (negsuc 1) ∷ []) ≡ Rows (row_of (pos 1 ∷ pos 0 ∷ []) (negsuc 1) ∷ [])
unfolding eliminated projected tidied normal gcd
eliminated-y = refl
