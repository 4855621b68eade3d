-- A point that meets some rows meets what adds make of them.
use Rattle.std.proofs.Common.{◌≡◌, ◌<◌, ℕ, zero, suc, ℤ, pos, ◌≤ℤ◌, true, List, [], ◌∷◌, ◌++◌, length, get_or, refl, sym, ap, ◌∙◌, inl, inr, ⊎_elim, arith}
use Rattle.std.specs.Prelude.{nat_lt}
use Rattle.std.specs.List.{All}
use Rattle.std.proofs.lemmas.Bool.{and_parts}
use Rattle.std.proofs.lemmas.Bool.Decides.{nat_tests}
use Rattle.std.proofs.lemmas.Int.{ints}
use Rattle.affine.specs.declared.row.Row.{Row}
use Rattle.affine.specs.Rows.{Meets, combination, normal, row_of, variables}
use Rattle.affine.proofs.NormalLaws.{Meets-normal, variables-normal}
use Rattle.affine.proofs.RowLaws.{Meets-combination, variables-combination}
use Rattle.plain_lemmas.specs.Lists.{Has}
use Rattle.plain_lemmas.proofs.MembershipLaws.{All-from, All-has, has-cases, has-get_or}
use Rattle.fourier_motzkin.specs.RowSets.{is_false, tidied}
use Rattle.fourier_motzkin.specs.Elimination.{AllOver}
use Rattle.fourier_motzkin.proofs.PointLaws.{false-unmet, tidied-met, tidied-over}
use Rattle.refutation.specs.declared.proofs_by_adding.Add.{Add}
use Rattle.refutation.specs.Refutations.{AreAdds, IsRefutation, Refutation, names_rows, row_at, rows_of, sum_of, with_sums}

below : (a n : ℕ) → nat_lt a n ≡ true → a < n
below a n h = grind (arith, nat_tests)

pub left-there : (rows : List Row) (add : Add) → names_rows rows add ≡ true → add.left < length rows
left-there rows add h = below add.left (length rows) (and_parts (nat_lt add.left (length rows)) (nat_lt add.right (length rows)) h).0

pub right-there : (rows : List Row) (add : Add) → names_rows rows add ≡ true → add.right < length rows
right-there rows add h = below add.right (length rows) (and_parts (nat_lt add.left (length rows)) (nat_lt add.right (length rows)) h).1

pub at-has : (P : Row → Type 0) (rows : List Row) (number : ℕ) → number < length rows → All P rows → P (row_at rows number)
at-has P rows number l all = All-has P rows (row_at rows number) all (has-get_or rows number (row_of [] (pos 0)) l)

sides-even : (n : ℕ) (rows : List Row) (add : Add) → AllOver n rows → names_rows rows add ≡ true → variables (row_at rows add.left) ≡ variables (row_at rows add.right)
sides-even n rows add over h =
    at-has (λ row. variables row ≡ n) rows add.left (left-there rows add h) over
    ∙ sym (at-has (λ row. variables row ≡ n) rows add.right (right-there rows add h) over)

factor : (n : ℕ) → pos 0 ≤ℤ pos n
factor n = omega (arith, ints)

pub sum-met : (n : ℕ) (rows : List Row) (add : Add) (point : List ℤ) → AllOver n rows → names_rows rows add ≡ true → All (Meets point) rows → Meets point (sum_of rows add)
unfolding sum_of
sum-met n rows add point over h met =
    (Meets-normal (combination (pos add.p) (row_at rows add.left) (pos add.q) (row_at rows add.right)) point).0
    (Meets-combination (pos add.p) (row_at rows add.left) (pos add.q) (row_at rows add.right) point (sides-even n rows add over h) (factor add.p) (factor add.q)
    (at-has (Meets point) rows add.left (left-there rows add h) met) (at-has (Meets point) rows add.right (right-there rows add h) met))

pub sum-over : (n : ℕ) (rows : List Row) (add : Add) → AllOver n rows → names_rows rows add ≡ true → variables (sum_of rows add) ≡ n
unfolding sum_of
sum-over n rows add over h =
    variables-normal (combination (pos add.p) (row_at rows add.left) (pos add.q) (row_at rows add.right))
    ∙ variables-combination (pos add.p) (row_at rows add.left) (pos add.q) (row_at rows add.right) (sides-even n rows add over h)
    ∙ at-has (λ row. variables row ≡ n) rows add.left (left-there rows add h) over

one-more : (P : Row → Type 0) (rows : List Row) (row : Row) → All P rows → P row → All P (rows ++ row ∷ [])
one-more P rows row all p = All-from P (rows ++ row ∷ []) (λ r h. ⊎_elim (λ k. All-has P rows r all k) (λ k. ⊎_elim (λ e. subst-back r e) (λ none. absurd none) k) (has-cases rows (row ∷ []) r h))
  where
    subst-back : (r : Row) → r ≡ row → P r
    subst-back r e = rw e p

pub sums-met : (n : ℕ) (rows : List Row) (adds : List Add) (point : List ℤ) → AllOver n rows → AreAdds rows adds → All (Meets point) rows → All (Meets point) (with_sums rows adds)
sums-met n rows [] point over are met = met
sums-met n rows (add ∷ adds) point over are met =
    sums-met n (rows ++ sum_of rows add ∷ []) adds point
    (one-more (λ row. variables row ≡ n) rows (sum_of rows add) over (sum-over n rows add over are.0))
    are.2
    (one-more (Meets point) rows (sum_of rows add) met (sum-met n rows add point over are.0 met))

pub refutation-met : (n : ℕ) (rows : List Row) (proof : Refutation) (point : List ℤ) → AllOver n rows → IsRefutation rows proof → All (Meets point) rows → All (Meets point) (rows_of rows proof)
refutation-met n rows proof point over is met = sums-met n (tidied rows) proof.adds point (tidied-over n rows over) is.adds (tidied-met rows point met)

-- a number of no row gives a row that isn't false
pub false-there : (rows : List Row) (number : ℕ) → is_false (row_at rows number) ≡ true → Has rows (row_at rows number)
false-there [] number h = cc
false-there (row ∷ rows) zero h = inl refl
false-there (row ∷ rows) (suc number) h = inr (false-there rows number h)

pub refuted-unmet : (n : ℕ) (rows : List Row) (proof : Refutation) (point : List ℤ) → AllOver n rows → IsRefutation rows proof → All (Meets point) rows → ⊥
refuted-unmet n rows proof point over is met =
    false-unmet (row_at (rows_of rows proof) proof.last) point is.ends
    (All-has (Meets point) (rows_of rows proof) (row_at (rows_of rows proof) proof.last) (refutation-met n rows proof point over is met)
    (false-there (rows_of rows proof) proof.last is.ends))

-- a row of a list, by whatever is given for what is no number
pub row-is : (rows : List Row) (number : ℕ) (row : Row) → number < length rows → row ≡ get_or rows number row → row ≡ row_at rows number
row-is rows number row l e = e ∙ same rows number l
  where
    same : (rows : List Row) (number : ℕ) → number < length rows → get_or rows number row ≡ row_at rows number
    same [] number l = absurd (omega arith)
    same (r ∷ rows) zero l = refl
    same (r ∷ rows) (suc number) l = same rows number (omega arith)

pub sum-is : (rows : List Row) (add : Add) (left right made : Row) → names_rows rows add ≡ true → left ≡ get_or rows add.left left → right ≡ get_or rows add.right right
    → made ≡ normal (combination (pos add.p) left (pos add.q) right) → made ≡ sum_of rows add
unfolding sum_of
sum-is rows add left right made h e f m =
    m ∙ ap (λ (r : Row). normal (combination (pos add.p) r (pos add.q) right)) (row-is rows add.left left (left-there rows add h) e)
    ∙ ap (λ (r : Row). normal (combination (pos add.p) (row_at rows add.left) (pos add.q) r)) (row-is rows add.right right (right-there rows add h) f)
