-- Tidied sets of rows. A set of rows is given by a list, in any order and with repetitions; the tidied set is one
-- list, whose rows rise by their coefficients.
use Rattle.std.specs.Prelude.{◌≡◌, ℕ, ℤ, pos, ◌≤ℤ◌, Bool, not, ◌&&◌, ◌||◌, ◌≤◌, ◌^◌, nat_lt, int_lt, List, [], ◌∷◌, map, filter, unsigned_abs, ◌↔◌, if◌then◌else◌, false}
use Rattle.std.specs.Ordering.{int_eq, int_cmp, is_eq, match_ordering}
use Rattle.std.specs.declared.cmp.Ordering.{Ordering}
use Rattle.std.specs.declared.cmp.Ordering.TheVariants.{Less}
use Rattle.std.specs.Cmp.Lexicographic.{slice_cmp}
use Rattle.std.specs.List.{All, AllByRecursion, Any, Contains, fold, list_all, list_any}
use Rattle.affine.specs.declared.row.Row.{Row}
use Rattle.affine.specs.Rows.{normal}

-- a row without variables
abbrev pub is_constant : Row → Bool
is_constant row = list_all (λ number. int_eq number (pos 0)) row.coef.items

-- a row without variables that is true says nothing
abbrev pub says_nothing : Row → Bool
says_nothing row = is_constant row && not (int_lt row.cst (pos 0))

-- a row without variables that is false
abbrev pub is_false : Row → Bool
is_false row = is_constant row && int_lt row.cst (pos 0)

-- rows by their coefficients, the first place first
abbrev pub compare : Row → Row → Ordering
compare row other = slice_cmp int_cmp row.coef.items other.coef.items

-- no row of the list has the same coefficients and a smaller constant
abbrev pub is_least_of : List Row → Row → Bool
is_least_of rows row = list_all (λ other. not (is_eq (compare row other) && int_lt other.cst row.cst)) rows

-- the rows of a list as the one list that rises by the coefficients; of rows with equal coefficients one
abbrev pub placed : Row → List Row → List Row
placed row [] = row ∷ []
placed row (other ∷ rows) = match_ordering (compare row other) (row ∷ other ∷ rows) (other ∷ rows) (other ∷ placed row rows)

abbrev pub rising : List Row → List Row
rising [] = []
rising (row ∷ rows) = placed row (rising rows)

-- what the rows say: the normal form of each, but for those that say nothing
abbrev pub told : List Row → List Row
told rows = filter (λ row. not (says_nothing row)) (map normal rows)

-- the tidied set: each row is made normal, those that say nothing are dropped, and of rows with equal coefficients
-- the one with the least constant stays
unfoldable pub tidied : List Row → List Row
tidied rows = rising (filter (is_least_of (told rows)) (told rows))

-- the rows rise by their coefficients, so that no two have the same
abbrev pub Rises : List Row → Type 0
Rises [] = Unit {0}
Rises (row ∷ rows) = AllByRecursion (λ other. compare row other ≡ Less) rows × Rises rows

-- a row is the normal form of one of the rows
abbrev pub IsNormalOf : List Row → Row → Type 0
IsNormalOf rows row = Any (λ given. normal given ≡ row) rows

-- what tidying keeps of the rows: a normal form that says something, with the least constant for its coefficients
pub record IsKept (rows : List Row) (row : Row) : Type 0 where
  pub normal_form : IsNormalOf rows row
  pub tells : says_nothing row ≡ false
  pub least : (other : Row) → IsNormalOf rows other → other.coef ≡ row.coef → row.cst ≤ℤ other.cst

-- the tidied set in its own words: the list that rises and has exactly the rows that are kept. There is one
pub record IsTidied (rows set : List Row) : Type 0 where
  pub rises : Rises set
  pub has : (row : Row) → Contains set row ↔ IsKept rows row

-- a tidied set and one row more: the row is dropped where it says nothing or stands there with no greater constant
abbrev pub kept : Row → List Row → List Row
kept row [] = row ∷ []
kept row (other ∷ rows) = match_ordering (compare row other) (row ∷ other ∷ rows) ((if int_lt row.cst other.cst then row else other) ∷ rows) (other ∷ kept row rows)

unfoldable pub with_row : Row → List Row → List Row
with_row row set = if says_nothing (normal row) then set else kept (normal row) set

-- and one row after another
abbrev pub with_rows : List Row → List Row → List Row
with_rows set rows = fold (λ set row. with_row row set) set rows

-- a number above 2^62 in size
abbrev pub is_wide_number : ℤ → Bool
is_wide_number number = nat_lt (2 ^ 62) (unsigned_abs number)

abbrev pub is_wide : Row → Bool
is_wide row = list_any is_wide_number row.coef.items || is_wide_number row.cst

-- each number of the row is at most so large
pub record IsWithin (most : ℕ) (row : Row) : Type 0 where
  pub coef : All (λ number. unsigned_abs number ≤ most) row.coef.items
  pub cst : unsigned_abs row.cst ≤ most
