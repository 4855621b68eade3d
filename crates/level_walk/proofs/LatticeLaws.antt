-- Points that meet rows, and the levels of their scan.
use Rattle.std.proofs.Common.{◌≡◌, ℕ, suc, ◌+◌, ◌≤◌, ◌^◌, ℤ, pos, ◌≤ℤ◌, int_lt, true, not, List, [], ◌∷◌, ◌++◌, length, length-append, take, get_or, refl, sym, ap, subst, inl, arith}
use Rattle.std.specs.Prelude.{unsigned_abs}
use Rattle.std.specs.List.{All, AllByRecursion}
use Rattle.std.proofs.lemmas.Int.{ints}
use Rattle.std.proofs.lemmas.List.Elements.{All-nil}
use Rattle.std.proofs.Math.Seq.{get_or-append_seam}
use Rattle.affine.specs.declared.row.Row.{Row}
use Rattle.affine.specs.Rows.{Meets, sum_at}
use Rattle.fourier_motzkin.specs.Elimination.{judged}
use Rattle.fourier_motzkin.specs.Ranges.{Allowed, IsOpen}
use Rattle.fourier_motzkin.specs.RowSets.{tidied}
use Rattle.fourier_motzkin.specs.Verdicts.{Bounds, bounds_of, levels, next, standing}
use Rattle.fourier_motzkin.proofs.LevelLaws.{points_lie_in_ranges}
use Rattle.plain_lemmas.proofs.MembershipLaws.{All-from, All-has, all-has, list_all-from, list_all-has}
use Rattle.fourier_motzkin.proofs.PointLaws.{judged-cases, met-tidied}
use Rattle.fourier_motzkin.proofs.EliminationRunLaws.{length-levels}
use Rattle.level_walk.specs.Lattices.{FitsCell, HIGHEST, LOWEST, meets_all}
use Rattle.level_walk.specs.Spaces.{IsWithin}

-- the test of all rows

not-negative : (z : ℤ) → not (int_lt z (pos 0)) ≡ true → pos 0 ≤ℤ z
not-negative z h = grind (arith, ints)

is-not-negative : (z : ℤ) → pos 0 ≤ℤ z → not (int_lt z (pos 0)) ≡ true
is-not-negative z h = grind (arith, ints)

pub meets-from : (rows : List Row) (point : List ℤ) → meets_all rows point ≡ true → All (Meets point) rows
unfolding meets_all
meets-from rows point is = All-from (Meets point) rows (λ row h. not-negative (sum_at row point) (list_all-has (λ row. not (int_lt (sum_at row point) (pos 0))) rows is row h))

pub meets-to : (rows : List Row) (point : List ℤ) → All (Meets point) rows → meets_all rows point ≡ true
unfolding meets_all
meets-to rows point met = list_all-from (λ row. not (int_lt (sum_at row point) (pos 0))) rows (λ row h. is-not-negative (sum_at row point) (All-has (Meets point) rows row met h))

-- the values of a place are small

small-value : (value : ℤ) → IsWithin LOWEST HIGHEST value → unsigned_abs value ≤ 2 ^ 60
small-value value within = let low = within.least in let high = within.greatest in omega (arith, ints, low, high)

pub small-values : (values : List ℤ) → AllByRecursion (IsWithin LOWEST HIGHEST) values → All (λ value. unsigned_abs value ≤ 2 ^ 60) values
small-values values within = All-from (λ value. unsigned_abs value ≤ 2 ^ 60) values (λ value h. small-value value (all-has (IsWithin LOWEST HIGHEST) values value within h))

pub all-append : {X : Type 0} (P : X → Type 0) (xs ys : List X) → AllByRecursion P xs → AllByRecursion P ys → AllByRecursion P (xs ++ ys)
all-append P [] ys first second = second
all-append P (x ∷ xs) ys first second = (first.0, all-append P xs ys first.1 second)

-- a point that meets the rows has an allowed value

take-front : {X : Type 0} (xs ys : List X) → take (length xs) (xs ++ ys) ≡ xs
take-front [] [] = refl
take-front [] (y ∷ ys) = refl
take-front (x ∷ xs) ys = ap (λ l. x ∷ l) (take-front xs ys)

level-of : (scan : Bounds) (rows : List Row) (k : ℕ) → scan ≡ bounds_of (length scan.levels) rows → get_or (bounds_of (length scan.levels) rows).levels k [] ≡ get_or scan.levels k []
level-of scan rows k is = sym (ap (λ (b : Bounds). get_or b.levels k []) is)

pub allowed-value : (scan : Bounds) (rows : List Row) (lows highs outer rest : List ℤ) (value : ℤ) → FitsCell scan rows lows highs → length outer + suc (length rest) ≡ length scan.levels
    → meets_all rows (outer ++ value ∷ rest) ≡ true → Allowed (get_or scan.levels (length outer) []) outer value
allowed-value scan rows lows highs outer rest value fits long is =
    let met : All (Meets (outer ++ value ∷ rest)) rows = meets-from rows (outer ++ value ∷ rest) is in
    let all = length-append outer (value ∷ rest) in
    let lie = points_lie_in_ranges (length scan.levels) rows (outer ++ value ∷ rest) (length outer) fits.over met (omega (arith, long, all)) (omega (arith, long)) in
    subst (λ (v : ℤ). Allowed (get_or scan.levels (length outer) []) outer v) (get_or-append_seam outer value rest (pos 0))
    (subst (λ (p : List ℤ). Allowed (get_or scan.levels (length outer) []) p (get_or (outer ++ value ∷ rest) (length outer) (pos 0))) (take-front outer (value ∷ rest))
    (subst (λ (l : List Row). Allowed l (take (length outer) (outer ++ value ∷ rest)) (get_or (outer ++ value ∷ rest) (length outer) (pos 0))) (level-of scan rows (length outer) fits.is) lie))

-- the rows of the last level say all that the rows say

pub last-level : (m : ℕ) (rows : List Row) (point : List ℤ) → (IsOpen m (get_or (bounds_of (suc m) rows).levels m []) → ⊥) → All (Meets point) (get_or (bounds_of (suc m) rows).levels m []) → All (Meets point) rows
unfolding bounds_of
last-level m rows point =
    let said = judged (tidied rows) in
    let is : get_or (levels m (next m said) ++ standing said ∷ []) m [] ≡ standing said =
    subst (λ i. get_or (levels m (next m said) ++ standing said ∷ []) i [] ≡ standing said) (length-levels m (next m said)) (get_or-append_seam (levels m (next m said)) (standing said) [] []) in
    subst (λ (l : List Row). (IsOpen m l → ⊥) → All (Meets point) l → All (Meets point) rows) (sym is)
    (judged-cases (λ s. (IsOpen m (standing s) → ⊥) → All (Meets point) (standing s) → All (Meets point) rows) (tidied rows)
    (λ some closed met. absurd (closed (inl (All-nil _))))
    (λ closed met. absurd (closed (inl (All-nil _))))
    (λ narrow few closed met. met-tidied rows point met))

-- so a value that the last level allows makes a point

pub exact-value : (scan : Bounds) (rows : List Row) (lows highs outer : List ℤ) (value : ℤ) → FitsCell scan rows lows highs → length outer + 1 ≡ length scan.levels
    → Allowed (get_or scan.levels (length outer) []) outer value → meets_all rows (outer ++ value ∷ []) ≡ true
exact-value scan rows lows highs outer value fits last allowed =
    let size : length scan.levels ≡ suc (length outer) = omega (arith, last) in
    let closed = fits.closed (length outer) (omega (arith, size)) in
    let level : get_or (bounds_of (suc (length outer)) rows).levels (length outer) [] ≡ get_or scan.levels (length outer) [] =
    subst (λ n. get_or (bounds_of n rows).levels (length outer) [] ≡ get_or scan.levels (length outer) []) size (level-of scan rows (length outer) fits.is) in
    let met = last-level (length outer) rows (outer ++ value ∷ [])
    (subst (λ (l : List Row). IsOpen (length outer) l → ⊥) (sym level) closed)
    (subst (λ (l : List Row). All (Meets (outer ++ value ∷ [])) l) (sym level) allowed) in
    meets-to rows (outer ++ value ∷ []) met
