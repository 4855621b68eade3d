-- Proofs with known answers, computed by the definitions. The rows are 3x + 3y - 4 >= 0 and -x - y + 1 >= 0: row 0 is
-- -x - y + 1, row 1 is x + y - 2.
use Rattle.std.specs.Prelude.{◌≡◌, pos, negsuc, List, [], ◌∷◌, refl}
use Rattle.affine.specs.Divisors.{gcd}
use Rattle.affine.specs.declared.row.Row.{Row}
use Rattle.affine.specs.Rows.{normal, row_of}
use Rattle.fourier_motzkin.specs.RowSets.{tidied}
use Rattle.refutation.specs.declared.proofs_by_adding.Why.TheVariants.{Index, Open, Wide}
use Rattle.refutation.specs.declared.proofs_by_adding.Checked.TheVariants.{Yes, No}
use Rattle.refutation.specs.Refutations.{Refutation, rows_of, sum_of}
use Rattle.refutation.specs.Checks.{checked}

abbrev apart : List Row
apart = row_of (pos 3 ∷ pos 3 ∷ []) (negsuc 3) ∷ row_of (negsuc 0 ∷ negsuc 0 ∷ []) (pos 1) ∷ []

-- 1 times row 0 plus 1 times row 1 is -1 >= 0, row 2
abbrev refuting : Refutation
refuting = record { adds = record { p = 1; left = 0; q = 1; right = 1 } ∷ []; last = 2 }

rows-refuting : rows_of apart refuting ≡ row_of (negsuc 0 ∷ negsuc 0 ∷ []) (pos 1) ∷ row_of (pos 1 ∷ pos 1 ∷ []) (negsuc 1) ∷ row_of (pos 0 ∷ pos 0 ∷ []) (negsuc 0) ∷ []
unfolding tidied sum_of normal gcd
rows-refuting = refl

checked-refuting : checked apart refuting ≡ Yes
unfolding checked tidied sum_of normal gcd
checked-refuting = refl

-- an add of a row that isn't there yet
checked-missing : checked apart (record { adds = record { p = 1; left = 0; q = 1; right = 2 } ∷ []; last = 2 }) ≡ No (Index 0)
unfolding checked tidied sum_of normal gcd
checked-missing = refl

-- a last row that some points meet, and one that is no row
checked-open : checked apart (record { adds = []; last = 0 }) ≡ No Open
unfolding checked tidied sum_of normal gcd
checked-open = refl

checked-none : checked apart (record { adds = []; last = 2 }) ≡ No Open
unfolding checked tidied sum_of normal gcd
checked-none = refl

-- x + 4611686018427387905y >= 0 has a number above 2^62; a number that is no row is looked for first
checked-wide : checked (row_of (pos 1 ∷ pos 4611686018427387905 ∷ []) (pos 0) ∷ []) (record { adds = record { p = 1; left = 0; q = 0; right = 0 } ∷ []; last = 1 }) ≡ No (Wide 0)
unfolding checked tidied sum_of normal gcd
checked-wide = refl

checked-index_first : checked (row_of (pos 1 ∷ pos 4611686018427387905 ∷ []) (pos 0) ∷ []) (record { adds = record { p = 1; left = 0; q = 0; right = 1 } ∷ []; last = 1 }) ≡ No (Index 0)
unfolding checked tidied sum_of normal gcd
checked-index_first = refl
