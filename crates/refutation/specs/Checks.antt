-- What a check of a proof finds.
use Rattle.std.specs.Prelude.{ℕ, suc, Bool, true, false, Option, Some, None, List, [], ◌∷◌, ◌++◌, if◌then◌else◌}
use Rattle.affine.specs.declared.row.Row.{Row}
use Rattle.fourier_motzkin.specs.RowSets.{is_false, tidied}
use Rattle.refutation.specs.declared.proofs_by_adding.Add.{Add}
use Rattle.refutation.specs.declared.proofs_by_adding.Why.{Why}
use Rattle.refutation.specs.declared.proofs_by_adding.Why.TheVariants.{Index, Open}
use Rattle.refutation.specs.declared.proofs_by_adding.Why.TheVariants as why
use Rattle.refutation.specs.declared.proofs_by_adding.Checked.{Checked}
use Rattle.refutation.specs.declared.proofs_by_adding.Checked.TheVariants.{Yes, No}
use Rattle.refutation.specs.Refutations.{Refutation, names_rows, names_wide, row_at, rows_of, sum_of}

-- what is wrong with the add of number k: it names a number that is no row yet, and else a wide row
abbrev pub flaw : ℕ → List Row → Add → Option Why
flaw k rows add = if names_rows rows add then (if names_wide rows add then Some (why.Wide k) else None) else Some (Index k)

-- what is wrong with the first faulty add, where they count from k
abbrev pub flaw_or : Option Why → Option Why → Option Why
flaw_or (Some found) later = Some found
flaw_or None later = later

abbrev pub first_flaw : ℕ → List Row → List Add → Option Why
first_flaw k rows [] = None
first_flaw k rows (add ∷ adds) = flaw_or (flaw k rows add) (first_flaw (suc k) (rows ++ sum_of rows add ∷ []) adds)

-- without a faulty add the last row decides
abbrev pub checked_by : Option Why → Bool → Checked
checked_by (Some found) ends = No found
checked_by None true = Yes
checked_by None false = No Open

unfoldable pub checked : List Row → Refutation → Checked
checked rows proof = checked_by (first_flaw 0 (tidied rows) proof.adds) (is_false (row_at (rows_of rows proof) proof.last))
