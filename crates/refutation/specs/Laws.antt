-- The laws of refutations. None names an elimination.
use Rattle.std.specs.Prelude.{◌≡◌, ℕ, ℤ, true, List}
use Rattle.std.specs.List.{All}
use Rattle.affine.specs.declared.row.Row.{Row}
use Rattle.affine.specs.Rows.{Meets}
use Rattle.fourier_motzkin.specs.Elimination.{AllOver}
use Rattle.refutation.specs.declared.proofs_by_adding.Add.{Add}
use Rattle.refutation.specs.Refutations.{IsRefutation, Refutation, names_rows, rows_of, sum_of}

-- a whole-number point that meets some rows meets each row that an add makes of them
abbrev pub AddKeepsPoints : Type 0
AddKeepsPoints =
    (n : ℕ) (rows : List Row) (add : Add) (point : List ℤ) → AllOver n rows → names_rows rows add ≡ true → All (Meets point) rows
    → Meets point (sum_of rows add)

-- and so it meets all rows of a proof whose adds stand
abbrev pub RefutationKeepsPoints : Type 0
RefutationKeepsPoints =
    (n : ℕ) (rows : List Row) (proof : Refutation) (point : List ℤ) → AllOver n rows → IsRefutation rows proof → All (Meets point) rows
    → All (Meets point) (rows_of rows proof)

-- no whole-number point meets rows that have a refutation
abbrev pub RefutedHasNoPoint : Type 0
RefutedHasNoPoint = (n : ℕ) (rows : List Row) (proof : Refutation) (point : List ℤ) → AllOver n rows → IsRefutation rows proof → All (Meets point) rows → ⊥
