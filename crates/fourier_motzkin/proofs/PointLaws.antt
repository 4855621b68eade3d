-- The points that meet rows meet what tidying and eliminating make of them.
use Rattle.std.proofs.Common.{◌≡◌, ℕ, zero, suc, ℤ, pos, neg_ℤ, ◌≤ℤ◌, ◌<ℤ◌, int_lt, Bool, true, false, not, ◌||◌, List, [], ◌∷◌, map, filter, length, refl, sym, ap, ◌∙◌, subst, ⊎_elim, Equal, arith}
use Rattle.std.specs.Prelude.{if◌then◌else◌, nat_lt}
use Rattle.std.specs.Ordering.{int_eq}
use Rattle.std.specs.List.{All, flat_map, list_all, list_any}
use Rattle.std.proofs.lemmas.Int.{ints}
use Rattle.std.proofs.lemmas.Bool.{and_parts}
use Rattle.std.proofs.lemmas.Bool.Decides.{Decides-int_eq}
use Rattle.affine.specs.declared.row.Row.{Row}
use Rattle.affine.specs.Sums.{dot}
use Rattle.affine.specs.Rows.{Meets, coefficient, normal, variables}
use Rattle.affine.proofs.NormalLaws.{Meets-normal, variables-normal}
use Rattle.affine.proofs.RowLaws.{Meets-combination, variables-combination}
use Rattle.fourier_motzkin.specs.RowSets.{compare, is_constant, is_false, is_wide, says_nothing, told, tidied}
use Rattle.fourier_motzkin.specs.Elimination.{AllOver, MeetsSaid, bounds_above, bounds_below, crossed, eliminated, is_without, judged, projected}
use Rattle.fourier_motzkin.specs.declared.elimination.Eliminated.{Eliminated}
use Rattle.fourier_motzkin.specs.declared.elimination.Eliminated.TheVariants as set
use Rattle.fourier_motzkin.specs.Verdicts.{next, ruled, ruling, verdict_of}
use Rattle.fourier_motzkin.specs.declared.verdicts.Ruling.TheVariants.{Empty}
use Rattle.plain_lemmas.proofs.MembershipLaws.{All-from, All-has, has-filter, filter-has, has-map, map-has, has-cases, flat_map-has, list_any-has}
use Rattle.plain_lemmas.specs.Lists.{Has}
use Rattle.fourier_motzkin.proofs.SetLaws.{least-tidied, tied-coefficients}

-- rows without variables

zero-number : (x : ℤ) → int_eq x (pos 0) ≡ true → x ≡ pos 0
zero-number x h = (Decides-int_eq x (pos 0)).0 h

dot-zeros : (xs point : List ℤ) → list_all (λ x. int_eq x (pos 0)) xs ≡ true → dot xs point ≡ pos 0
dot-zeros [] point h = refl
dot-zeros (x ∷ xs) [] h = refl
dot-zeros (x ∷ xs) (y ∷ ys) h =
    let first = zero-number x ((and_parts (int_eq x (pos 0)) (list_all (λ x. int_eq x (pos 0)) xs) h).0) in
    let rest = dot-zeros xs ys ((and_parts (int_eq x (pos 0)) (list_all (λ x. int_eq x (pos 0)) xs) h).1) in
    rw (first, rest) (omega (arith, ints))

nothing-met : (row : Row) (point : List ℤ) → says_nothing row ≡ true → Meets point row
nothing-met row point h =
    let sum = dot-zeros row.coef.items point ((and_parts (is_constant row) (not (int_lt row.cst (pos 0))) h).0) in
    let cst = not-negative row.cst ((and_parts (is_constant row) (not (int_lt row.cst (pos 0))) h).1) in
    rw sum (omega (arith, ints, cst))
  where
    not-negative : (z : ℤ) → not (int_lt z (pos 0)) ≡ true → pos 0 ≤ℤ z
    not-negative z h = grind (arith, ints)

pub false-unmet : (row : Row) (point : List ℤ) → is_false row ≡ true → Meets point row → ⊥
false-unmet row point h met =
    let sum = dot-zeros row.coef.items point ((and_parts (is_constant row) (int_lt row.cst (pos 0)) h).0) in
    let cst = negative row.cst ((and_parts (is_constant row) (int_lt row.cst (pos 0)) h).1) in
    let is = rw sum at met in
    omega (arith, ints, cst, is)
  where
    negative : (z : ℤ) → int_lt z (pos 0) ≡ true → z <ℤ pos 0
    negative z h = grind (arith, ints)

-- tidying

pub told-from : (rows : List Row) (row : Row) → Has (told rows) row → (given : Row) × Has rows given × (row ≡ normal given)
told-from rows row h = map-has normal rows row (filter-has (λ row. not (says_nothing row)) (map normal rows) row h).0

pub has-told : (rows : List Row) (row : Row) → Has rows row → says_nothing (normal row) ≡ false → Has (told rows) (normal row)
has-told rows row h e = has-filter (λ row. not (says_nothing row)) (map normal rows) (normal row) (has-map normal rows row h) (ap not e)

pub tidied-met : (rows : List Row) (point : List ℤ) → All (Meets point) rows → All (Meets point) (tidied rows)
tidied-met rows point met = All-from (Meets point) (tidied rows) (λ row h.
    let (given, k, is) = told-from rows row ((least-tidied rows).from row h) in
    subst (Meets point) (sym is) ((Meets-normal given point).0 (All-has (Meets point) rows given met k)))

weaker-met : (row least : Row) (point : List ℤ) → compare row least ≡ Equal → least.cst ≤ℤ row.cst → Meets point least → Meets point row
weaker-met row least point tie below met =
    let same : dot row.coef.items point ≡ dot least.coef.items point = ap (λ c. dot c.items point) (tied-coefficients row least tie) in
    rw same (omega (arith, ints, below, met))

pub met-tidied : (rows : List Row) (point : List ℤ) → All (Meets point) (tidied rows) → All (Meets point) rows
met-tidied rows point met = All-from (Meets point) rows (λ row h. (Meets-normal row point).1 (at row h (says_nothing (normal row)) refl))
  where
    at : (row : Row) → Has rows row → (b : Bool) → says_nothing (normal row) ≡ b → Meets point (normal row)
    at row h true e = nothing-met (normal row) point e
    at row h false e =
        let (least, k, tie, below) = (least-tidied rows).covers (normal row) (has-told rows row h e) in
        weaker-met (normal row) least point tie below (All-has (Meets point) (tidied rows) least met k)

pub tidied-over : (n : ℕ) (rows : List Row) → AllOver n rows → AllOver n (tidied rows)
tidied-over n rows over = All-from (λ row. variables row ≡ n) (tidied rows) (λ row h.
    let (given, k, is) = told-from rows row ((least-tidied rows).from row h) in
    ap variables is ∙ variables-normal given ∙ All-has (λ row. variables row ≡ n) rows given over k)

-- eliminating

-- each projected row is a row without the variable or a combination of two
pub projected-from : (variable : ℕ) (rows : List Row) (P : Row → Type 0) → ((row : Row) → Has rows row → is_without variable row ≡ true → P row)
    → ((below above : Row) → Has rows below → Has rows above → bounds_below variable below ≡ true → bounds_above variable above ≡ true → P (crossed variable below above))
    → (row : Row) → Has (projected variable rows) row → P row
unfolding projected
projected-from variable rows P stay cross row h =
    ⊎_elim
    (λ k. let (has, is) = filter-has (is_without variable) rows row k in stay row has is)
    (λ k.
    let (below, has, pair) = flat_map-has (λ P. map (crossed variable P) (filter (bounds_above variable) rows)) (filter (bounds_below variable) rows) row k in
    let (above, also, is) = map-has (crossed variable below) (filter (bounds_above variable) rows) row pair in
    let (first, positive) = filter-has (bounds_below variable) rows below has in
    let (second, negative) = filter-has (bounds_above variable) rows above also in
    subst P (sym is) (cross below above first second positive negative))
    (has-cases (filter (is_without variable) rows) (flat_map (λ P. map (crossed variable P) (filter (bounds_above variable) rows)) (filter (bounds_below variable) rows)) row h)

positive-number : (z : ℤ) → int_lt (pos 0) z ≡ true → pos 0 ≤ℤ z
positive-number z h = grind (arith, ints)

negative-number : (z : ℤ) → int_lt z (pos 0) ≡ true → pos 0 ≤ℤ neg_ℤ z
negative-number z h = grind (arith, ints)

same-variables : (n : ℕ) (rows : List Row) (first second : Row) → AllOver n rows → Has rows first → Has rows second → variables first ≡ variables second
same-variables n rows first second over h k = All-has (λ row. variables row ≡ n) rows first over h ∙ sym (All-has (λ row. variables row ≡ n) rows second over k)

pub projected-met : (n variable : ℕ) (rows : List Row) (point : List ℤ) → AllOver n rows → All (Meets point) rows → All (Meets point) (projected variable rows)
projected-met n variable rows point over met = All-from (Meets point) (projected variable rows) (projected-from variable rows (Meets point)
    (λ row h is. All-has (Meets point) rows row met h)
    (λ below above h k p q. Meets-combination (neg_ℤ (coefficient above variable)) below (coefficient below variable) above point
    (same-variables n rows below above over h k)
    (negative-number (coefficient above variable) q) (positive-number (coefficient below variable) p)
    (All-has (Meets point) rows below met h) (All-has (Meets point) rows above met k)))

pub projected-over : (n variable : ℕ) (rows : List Row) → AllOver n rows → AllOver n (projected variable rows)
projected-over n variable rows over = All-from (λ row. variables row ≡ n) (projected variable rows) (projected-from variable rows (λ row. variables row ≡ n)
    (λ row h is. All-has (λ row. variables row ≡ n) rows row over h)
    (λ below above h k p q.
    variables-combination (neg_ℤ (coefficient above variable)) below (coefficient below variable) above (same-variables n rows below above over h k)
    ∙ All-has (λ row. variables row ≡ n) rows below over h))

-- judging

pub judged-cases : (P : Eliminated → Type 0) (rows : List Row) → (list_any is_false rows ≡ true → P set.False) → P set.Wide → (list_any is_wide rows ≡ false → nat_lt 512 (length rows) ≡ false → P (set.Rows rows)) → P (judged rows)
judged-cases P rows wrong wide stands = at (list_any is_false rows) refl (list_any is_wide rows) refl (nat_lt 512 (length rows)) refl
  where
    at : (a : Bool) → list_any is_false rows ≡ a → (b : Bool) → list_any is_wide rows ≡ b → (d : Bool) → nat_lt 512 (length rows) ≡ d → P (if a then set.False else (if b || d then set.Wide else set.Rows rows))
    at true e b f d g = wrong e
    at false e true f d g = wide
    at false e false f true g = wide
    at false e false f false g = stands f g

pub judged-met : (rows : List Row) (point : List ℤ) → All (Meets point) rows → MeetsSaid point (judged rows)
judged-met rows point met = judged-cases (MeetsSaid point) rows
    (λ some. let (row, h, is) = list_any-has is_false rows some in false-unmet row point is (All-has (Meets point) rows row met h))
    tt
    (λ narrow few. met)

pub eliminated-met : (n variable : ℕ) (rows : List Row) (point : List ℤ) → AllOver n rows → All (Meets point) rows → MeetsSaid point (eliminated variable rows)
unfolding eliminated
eliminated-met n variable rows point over met = judged-met (tidied (projected variable rows)) point (tidied-met (projected variable rows) point (projected-met n variable rows point over met))

-- what is said of rows with so many variables
abbrev pub OverSaid : ℕ → Eliminated → Type 0
OverSaid n set.False = Unit {0}
OverSaid n set.Wide = Unit {0}
OverSaid n (set.Rows rows) = AllOver n rows

pub judged-over : (n : ℕ) (rows : List Row) → AllOver n rows → OverSaid n (judged rows)
judged-over n rows over = judged-cases (OverSaid n) rows (λ some. tt) tt (λ narrow few. over)

pub eliminated-over : (n variable : ℕ) (rows : List Row) → AllOver n rows → OverSaid n (eliminated variable rows)
unfolding eliminated
eliminated-over n variable rows over = judged-over n (tidied (projected variable rows)) (tidied-over n (projected variable rows) (projected-over n variable rows over))

-- the verdict

pub next-over : (n variable : ℕ) (said : Eliminated) → OverSaid n said → OverSaid n (next variable said)
next-over n variable set.False over = over
next-over n variable set.Wide over = over
next-over n variable (set.Rows rows) over = eliminated-over n variable rows over

pub next-met : (n variable : ℕ) (said : Eliminated) (point : List ℤ) → OverSaid n said → MeetsSaid point said → MeetsSaid point (next variable said)
next-met n variable set.False point over met = met
next-met n variable set.Wide point over met = met
next-met n variable (set.Rows rows) point over met = eliminated-met n variable rows point over met

ruled-unmet : (said : Eliminated) (point : List ℤ) → ruled said ≡ Empty → MeetsSaid point said → ⊥
ruled-unmet set.False point e met = met
ruled-unmet set.Wide point e met = cc
ruled-unmet (set.Rows rows) point e met = cc

pub ruling-unmet : (n k : ℕ) (said : Eliminated) (point : List ℤ) → OverSaid n said → ruling k said ≡ Empty → MeetsSaid point said → ⊥
ruling-unmet n zero said point over e met = ruled-unmet said point e met
ruling-unmet n (suc k) said point over e met = ruling-unmet n k (next k said) point (next-over n k said over) e (next-met n k said point over met)

pub verdict-unmet : (n : ℕ) (rows : List Row) (point : List ℤ) → AllOver n rows → verdict_of n rows ≡ Empty → All (Meets point) rows → ⊥
unfolding verdict_of
verdict-unmet n rows point over e met =
    ruling-unmet n n (judged (tidied rows)) point (judged-over n (tidied rows) (tidied-over n rows over)) e (judged-met (tidied rows) point (tidied-met rows point met))
