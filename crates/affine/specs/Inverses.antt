-- Inverses of whole numbers. An inverse is kept as the list of its columns: then what moves the rows of a matrix
-- moves the columns of its inverse.
use Rattle.std.specs.Prelude.{◌≡◌, ℕ, ℤ, pos, negsuc, List, [], ◌∷◌, length, replicate, refl}
use Rattle.std.specs.List.{AllByRecursion}
use Rattle.affine.specs.Matrices.{product}
use Rattle.affine.specs.Sums.{weighted}

-- the product with a matrix that is given by its columns of n numbers: the sum of each number times its column
abbrev pub across : ℕ → List (List ℤ) → List ℤ → List ℤ
across n [] numbers = replicate n (pos 0)
across n (column ∷ columns) [] = replicate n (pos 0)
across n (column ∷ columns) (number ∷ numbers) = weighted number column (pos 1) (across n columns numbers)

-- n lists of n numbers
pub record IsSquare (n : ℕ) (rows : List (List ℤ)) : Type 0 where
  pub many : length rows ≡ n
  pub long : AllByRecursion (λ row. length row ≡ n) rows

-- the matrix of these columns is the inverse of the matrix of these rows
pub record IsInverse (n : ℕ) (rows columns : List (List ℤ)) : Type 0 where
  pub rows_square : IsSquare n rows
  pub columns_square : IsSquare n columns
  pub there : (point : List ℤ) → length point ≡ n → across n columns (product rows point) ≡ point
  pub back : (place : List ℤ) → length place ≡ n → product rows (across n columns place) ≡ place

-- the rows of a matrix, and the columns of its inverse
pub record Inverted : Type 0 where
  pub rows : List (List ℤ)
  pub columns : List (List ℤ)

-- the matrix with rows (1, 0) and (2, 1) has the inverse with rows (1, 0) and (-2, 1), which has the columns
-- (1, -2) and (0, 1): it maps (4, 11) back to (4, 3)
across-example : across 2 ((pos 1 ∷ negsuc 1 ∷ []) ∷ (pos 0 ∷ pos 1 ∷ []) ∷ []) (pos 4 ∷ pos 11 ∷ []) ≡ pos 4 ∷ pos 3 ∷ []
across-example = refl
