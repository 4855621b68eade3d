-- The laws of elimination, each in one statement.
use Rattle.std.specs.Prelude.{◌≡◌, ◌<◌, ℕ, ℤ, pos, ◌<ℤ◌, List, [], ◌↔◌, length, slice_index_or, take}
use Rattle.std.specs.List.{All, Contains}
use Rattle.affine.specs.declared.row.Row.{Row}
use Rattle.affine.specs.Rows.{Meets, coefficient}
use Rattle.fourier_motzkin.specs.RowSets.{IsTidied, tidied}
use Rattle.fourier_motzkin.specs.Elimination.{AllOver, MeetsSaid, eliminated}
use Rattle.fourier_motzkin.specs.Ranges.{Allowed, IsAlone, IsOpen}
use Rattle.fourier_motzkin.specs.Verdicts.{verdict_of, bounds_of}
use Rattle.fourier_motzkin.specs.declared.verdicts.Ruling.TheVariants.{Empty, Maybe}

-- the tidied set is the one list that rises and has exactly the rows that are kept
abbrev pub TidiedIsKept : Type 0
TidiedIsKept = (rows set : List Row) → IsTidied rows set ↔ (set ≡ tidied rows)

-- a point meets all rows exactly where it meets the tidied rows
abbrev pub TidyingKeepsPoints : Type 0
TidyingKeepsPoints = (rows : List Row) (point : List ℤ) → All (Meets point) rows ↔ All (Meets point) (tidied rows)

-- a point that meets all rows meets what is said after an elimination
abbrev pub EliminatingKeepsPoints : Type 0
EliminatingKeepsPoints = (n variable : ℕ) (rows : List Row) (point : List ℤ) → AllOver n rows → All (Meets point) rows → MeetsSaid point (eliminated variable rows)

-- where the verdict is Empty, no whole-number point meets all rows
abbrev pub EmptyHasNoPoint : Type 0
EmptyHasNoPoint = (n : ℕ) (rows : List Row) (point : List ℤ) → AllOver n rows → verdict_of n rows ≡ Empty → All (Meets point) rows → ⊥

-- two lists have the same rows
abbrev pub SameRows : List Row → List Row → Type 0
SameRows rows others = (row : Row) → Contains rows row ↔ Contains others row

-- no answer depends on the order of the rows, or on how often one is given
pub record OrderIsNoMatter : Type 0 where
  pub tidied : (rows others : List Row) → SameRows rows others → tidied rows ≡ tidied others
  pub eliminated : (variable : ℕ) (rows others : List Row) → SameRows rows others → eliminated variable rows ≡ eliminated variable others
  pub verdict : (n : ℕ) (rows others : List Row) → SameRows rows others → verdict_of n rows ≡ verdict_of n others
  pub bounds : (n : ℕ) (rows others : List Row) → SameRows rows others → bounds_of n rows ≡ bounds_of n others

-- level k of the bounds holds rows over the variables up to k
abbrev pub LevelsReach : Type 0
LevelsReach = (n : ℕ) (rows : List Row) (k j : ℕ) → AllOver n rows → k < n → k < j → All (λ row. coefficient row j ≡ pos 0) (slice_index_or (bounds_of n rows).levels k [])

-- at each level a point that meets all rows has an allowed value after its outer values
abbrev pub PointsLieInRanges : Type 0
PointsLieInRanges =
    (n : ℕ) (rows : List Row) (point : List ℤ) (k : ℕ) → AllOver n rows → All (Meets point) rows → length point ≡ n → k < n
    → Allowed (slice_index_or (bounds_of n rows).levels k []) (take k point) (slice_index_or point k (pos 0))

-- where the verdict is Maybe, a point that is allowed at every level meets all rows: the rows of the last level alone
-- are those of the whole system
abbrev pub AllowedPointsMeet : Type 0
AllowedPointsMeet =
    (n : ℕ) (rows : List Row) (point : List ℤ) → verdict_of n rows ≡ Maybe → 0 < n → length point ≡ n
    → ((k : ℕ) → k < n → Allowed (slice_index_or (bounds_of n rows).levels k []) (take k point) (slice_index_or point k (pos 0)))
    → All (Meets point) rows

-- where the verdict is Maybe, a variable that two of the rows bound, each by itself and one on each side, is bound on
-- both sides at its level, so that it has a range wherever it has a value
abbrev pub BoundedLevelsClose : Type 0
BoundedLevelsClose =
    (n : ℕ) (rows : List Row) (k : ℕ) (lower upper : Row) → verdict_of n rows ≡ Maybe → k < n
    → Contains rows lower → IsAlone k lower → pos 0 <ℤ coefficient lower k
    → Contains rows upper → IsAlone k upper → coefficient upper k <ℤ pos 0
    → IsOpen k (slice_index_or (bounds_of n rows).levels k []) → ⊥
