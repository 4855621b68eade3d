-- Refutations: sums of rows, one after another, that end in a row which no point meets. A refutation is checked by adding
-- rows alone; no elimination is in this file.
use Rattle.std.specs.Prelude.{◌≡◌, ◌≤◌, ◌^◌, ◌&&◌, ◌||◌, ℕ, pos, nat_lt, Bool, true, false, List, [], ◌∷◌, ◌++◌, length, slice_index_or}
use Rattle.std.specs.List.{All}
use Rattle.affine.specs.declared.row.Row.{Row}
use Rattle.affine.specs.Rows.{combination, normal, row_of}
use Rattle.fourier_motzkin.specs.RowSets.{is_false, is_wide, tidied}
use Rattle.refutation.specs.declared.proofs_by_adding.Add.{Add}

-- a row by its number, from 0; what is no number of a row gives 0 >= 0
abbrev pub row_at : List Row → ℕ → Row
row_at rows number = slice_index_or rows number (row_of [] (pos 0))

-- the row that an add makes of some rows: the normal form of p times the left row plus q times the right row
unfoldable pub sum_of : List Row → Add → Row
sum_of rows add = normal (combination (pos add.p) (row_at rows add.left) (pos add.q) (row_at rows add.right))

-- rows, and behind them the row of each add, in order
abbrev pub with_sums : List Row → List Add → List Row
with_sums rows [] = rows
with_sums rows (add ∷ adds) = with_sums (rows ++ sum_of rows add ∷ []) adds

-- an add names two numbers of rows
abbrev pub names_rows : List Row → Add → Bool
names_rows rows add = nat_lt add.left (length rows) && nat_lt add.right (length rows)

-- one of the two rows has a number above 2^62 in size
abbrev pub names_wide : List Row → Add → Bool
names_wide rows add = is_wide (row_at rows add.left) || is_wide (row_at rows add.right)

-- each add names rows that are there before it, and neither is wide
abbrev pub AreAdds : List Row → List Add → Type 0
AreAdds rows [] = Unit {0}
AreAdds rows (add ∷ adds) = (names_rows rows add ≡ true) × (names_wide rows add ≡ false) × AreAdds (rows ++ sum_of rows add ∷ []) adds

-- p is 1 to 2^62, and q is 0 to 2^62
pub record HasFactors (add : Add) : Type 0 where
  pub p_from : 1 ≤ add.p
  pub p_to : add.p ≤ 2 ^ 62
  pub q_to : add.q ≤ 2 ^ 62

-- some adds, and the number of the row that ends them
pub record Refutation : Type 0 where
  pub adds : List Add
  pub last : ℕ

-- the rows of a proof: the tidied rows, by their coefficients, and the rows that the adds make
abbrev pub rows_of : List Row → Refutation → List Row
rows_of rows proof = with_sums (tidied rows) proof.adds

-- a refutation of some rows: its last row has no variables and a negative constant
pub record IsRefutation (rows : List Row) (proof : Refutation) : Type 0 where
  pub factors : All HasFactors proof.adds
  pub adds : AreAdds (tidied rows) proof.adds
  pub ends : is_false (row_at (rows_of rows proof) proof.last) ≡ true
