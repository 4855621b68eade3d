-- The ends after every row are the range.
use Rattle.std.proofs.Common.{◌≡◌, ℕ, ◌+◌, ◌<◌, ◌≤◌, ℤ, pos, ◌+ℤ◌, ◌*ℤ◌, ◌≤ℤ◌, ◌<ℤ◌, int_lt, Bool, true, false, ◌||◌, Option, Some, None, List, [], ◌∷◌, ◌++◌, length, take, get_or, refl, sym, ap, ◌∙◌, subst, inl, inr, ⊎_elim, arith}
use Rattle.std.specs.Prelude.{◌↔◌, ◌⊎◌, IfSome, IsNone, is_some}
use Rattle.std.specs.List.{list_any}
use Rattle.std.proofs.lemmas.Int.{ints}
use Rattle.std.proofs.lemmas.List.{take_more, take_all}
use Rattle.affine.specs.declared.row.Row.{Row}
use Rattle.affine.specs.Rows.{Meets, coefficient, sum_at}
use Rattle.affine.proofs.RowLaws.{sum_at-push}
use Rattle.fourier_motzkin.specs.Elimination.{bounds_above, bounds_below}
use Rattle.fourier_motzkin.specs.Ranges.{Allowed, IsOpen, IsRange, Lies}
use Rattle.plain_lemmas.proofs.MembershipLaws.{All-from, All-has, has-cases, has-left, has-right, list_any-has, list_any-none}

-- a row at the point with one value more

pub meets-push : (row : Row) (outer : List ℤ) (variable : ℕ) (c rest value : ℤ) → length outer ≡ variable → c ≡ coefficient row variable → rest ≡ sum_at row outer → Meets (outer ++ value ∷ []) row ↔ (pos 0 ≤ℤ (rest +ℤ c *ℤ value))
meets-push row outer variable c rest value e f g =
    let sum = sum_at-push row outer value in
    let at : coefficient row (length outer) ≡ c = ap (coefficient row) e ∙ sym f in
    let is : sum_at row (outer ++ value ∷ []) ≡ rest +ℤ c *ℤ value = sum ∙ rw (at, ← g) refl in
    (λ h. subst (λ z. pos 0 ≤ℤ z) is h, λ h. subst (λ z. pos 0 ≤ℤ z) (sym is) h)

taken-more : (rows : List Row) (i : ℕ) (row : Row) → i < length rows → row ≡ get_or rows i row → take (i + 1) rows ≡ take i rows ++ row ∷ []
taken-more rows i row h e = take_more rows i row h ∙ ap (λ r. take i rows ++ r ∷ []) (sym e)

-- one row more

pub lies-more : (rows : List Row) (outer : List ℤ) (variable i : ℕ) (row : Row) (c rest : ℤ) (least greatest least' greatest' : Option ℤ) → length outer ≡ variable → i < length rows → row ≡ get_or rows i row → c ≡ coefficient row variable → rest ≡ sum_at row outer
    → ((value : ℤ) → Lies least greatest value ↔ Allowed (take i rows) outer value)
    → ((value : ℤ) → Lies least' greatest' value ↔ (Lies least greatest value × (pos 0 ≤ℤ (rest +ℤ c *ℤ value))))
    → (value : ℤ) → Lies least' greatest' value ↔ Allowed (take (i + 1) rows) outer value
lies-more rows outer variable i row c rest least greatest least' greatest' long inside is f g old new value =
    let both = meets-push row outer variable c rest value long f g in
    let P = Meets (outer ++ value ∷ []) in (
      λ h. let k = (new value).0 h in
          rw (taken-more rows i row inside is) (All-from P (take i rows ++ row ∷ []) (λ r m. ⊎_elim
          (λ n. All-has P (take i rows) r ((old value).0 k.0) n)
          (λ n. ⊎_elim (λ e. subst P (sym e) (both.1 k.1)) (λ none. absurd none) n)
          (has-cases (take i rows) (row ∷ []) r m))),
      λ h. let all = rw (taken-more rows i row inside is) at h in
          (new value).1 (
            (old value).1 (All-from P (take i rows) (λ r m. All-has P (take i rows ++ row ∷ []) r all (has-left (take i rows) (row ∷ []) r m))),
            both.0 (All-has P (take i rows ++ row ∷ []) row all (has-right (take i rows) (row ∷ []) row (inl refl))),
          ),
    )

or-false : (b : Bool) → (b || false) ≡ b
or-false true = refl
or-false false = refl

or_assoc : (a b d : Bool) → ((a || b) || d) ≡ (a || (b || d))
or_assoc true b d = refl
or_assoc false b d = refl

list_any-push : (p : Row → Bool) (rows : List Row) (row : Row) → list_any p (rows ++ row ∷ []) ≡ (list_any p rows || p row)
list_any-push p [] row = or-false (p row)
list_any-push p (r ∷ rows) row = ap (λ b. p r || b) (list_any-push p rows row) ∙ sym (or_assoc (p r) (list_any p rows) (p row))

pub side-more : (p : Row → Bool) (rows : List Row) (i : ℕ) (row : Row) (b new old : Bool) → i < length rows → row ≡ get_or rows i row → b ≡ p row → new ≡ (old || b) → old ≡ list_any p (take i rows) → new ≡ list_any p (take (i + 1) rows)
side-more p rows i row b new old inside is e f g =
    rw (taken-more rows i row inside is) (f ∙ ap (λ x. x || b) g ∙ ap (λ x. list_any p (take i rows) || x) e ∙ sym (list_any-push p (take i rows) row))

-- a row that no value meets

NoValue : List Row → List ℤ → Type 0
NoValue rows outer = (value : ℤ) → Allowed rows outer value → ⊥

pub none-at-row : (rows : List Row) (outer : List ℤ) (variable i : ℕ) (row : Row) (c rest : ℤ) → length outer ≡ variable → i < length rows → row ≡ get_or rows i row → c ≡ coefficient row variable → rest ≡ sum_at row outer
    → ((value : ℤ) → pos 0 ≤ℤ (rest +ℤ c *ℤ value) → ⊥) → (value : ℤ) → Allowed rows outer value → ⊥
none-at-row rows outer variable i row c rest long inside is f g none value all =
    none value ((meets-push row outer variable c rest value long f g).0 (subst (Meets (outer ++ value ∷ [])) (sym is) (all i row inside)))

-- every row

pub lies-all : (rows : List Row) (outer : List ℤ) (i : ℕ) (least greatest : Option ℤ) → length rows ≤ i → ((value : ℤ) → Lies least greatest value ↔ Allowed (take i rows) outer value) → (value : ℤ) → Lies least greatest value ↔ Allowed rows outer value
lies-all rows outer i least greatest past lies = subst (λ (all : List Row). (value : ℤ) → Lies least greatest value ↔ Allowed all outer value) (take_all i rows past) lies

pub side-all : (p : Row → Bool) (rows : List Row) (i : ℕ) (b : Bool) → length rows ≤ i → b ≡ list_any p (take i rows) → b ≡ list_any p rows
side-all p rows i b past is = is ∙ ap (list_any p) (take_all i rows past)

ends-are-range : (P : ℤ → Type 0) (least greatest : Option ℤ) (low high : ℤ) → least ≡ Some low → greatest ≡ Some high → low ≤ℤ high → ((value : ℤ) → Lies least greatest value ↔ P value) → IsRange P low high
ends-are-range P least greatest low high e f some is =
    let lies : (value : ℤ) → ((low ≤ℤ value) × (value ≤ℤ high)) ↔ P value = subst (λ g. (value : ℤ) → Lies (Some low) g value ↔ P value) f (subst (λ l. (value : ℤ) → Lies l greatest value ↔ P value) e is) in
    record {
      least_allowed = (lies low).0 (omega (arith, ints), some);
      greatest_allowed = (lies high).0 (some, omega (arith, ints));
      within = λ value. ((lies value).1, (lies value).0);
    }

pub range-some : (P : ℤ → Type 0) (least greatest : Option ℤ) (result : Option (ℤ × ℤ)) → ((value : ℤ) → Lies least greatest value ↔ P value)
    → IfSome result (λ ends. (least ≡ Some ends.0) × (greatest ≡ Some ends.1) × (ends.0 ≤ℤ ends.1)) → IfSome result (λ ends. IsRange P ends.0 ends.1)
range-some P least greatest None is found = tt
range-some P least greatest (Some ends) is found = ends-are-range P least greatest ends.0 ends.1 found.0 found.1 found.2 is

-- no row bounds the variable on one side

not-above : (z : ℤ) → int_lt (pos 0) z ≡ false → z ≤ℤ pos 0
not-above z h = grind (arith, ints)

not-below : (z : ℤ) → int_lt z (pos 0) ≡ false → pos 0 ≤ℤ z
not-below z h = grind (arith, ints)

above-not : (z : ℤ) → int_lt (pos 0) z ≡ true → z ≤ℤ pos 0 → ⊥
above-not z h k = grind (arith, ints)

below-not : (z : ℤ) → int_lt z (pos 0) ≡ true → pos 0 ≤ℤ z → ⊥
below-not z h k = grind (arith, ints)

open-below : (variable : ℕ) (rows : List Row) → list_any (bounds_below variable) rows ≡ false → IsOpen variable rows
open-below variable rows none = inl (All-from (λ row. coefficient row variable ≤ℤ pos 0) rows (λ row h. not-above (coefficient row variable) (list_any-none (bounds_below variable) rows none row h)))

open-above : (variable : ℕ) (rows : List Row) → list_any (bounds_above variable) rows ≡ false → IsOpen variable rows
open-above variable rows none = inr (All-from (λ row. pos 0 ≤ℤ coefficient row variable) rows (λ row h. not-below (coefficient row variable) (list_any-none (bounds_above variable) rows none row h)))

closed : (variable : ℕ) (rows : List Row) → list_any (bounds_below variable) rows ≡ true → list_any (bounds_above variable) rows ≡ true → IsOpen variable rows → ⊥
closed variable rows below above (inl all) = let (row, h, is) = list_any-has (bounds_below variable) rows below in above-not (coefficient row variable) is (All-has (λ row. coefficient row variable ≤ℤ pos 0) rows row all h)
closed variable rows below above (inr all) = let (row, h, is) = list_any-has (bounds_above variable) rows above in below-not (coefficient row variable) is (All-has (λ row. pos 0 ≤ℤ coefficient row variable) rows row all h)

none-there : (variable : ℕ) (rows : List Row) (outer : List ℤ) (least greatest : Option ℤ) → ((value : ℤ) → Lies least greatest value ↔ Allowed rows outer value)
    → is_some least ≡ list_any (bounds_below variable) rows → is_some greatest ≡ list_any (bounds_above variable) rows
    → ((low high : ℤ) → least ≡ Some low → greatest ≡ Some high → high <ℤ low) → ((value : ℤ) → Allowed rows outer value → ⊥) ⊎ IsOpen variable rows
none-there variable rows outer None greatest lies below above cross = inr (open-below variable rows (sym below))
none-there variable rows outer (Some low) None lies below above cross = inr (open-above variable rows (sym above))
none-there variable rows outer (Some low) (Some high) lies below above cross = inl (λ value all.
    let between = (lies value).1 all in
    let over = cross low high refl refl in
    let one = between.0 in
    let two = between.1 in
    omega (arith, ints, one, two, over))

pub range-none : (variable : ℕ) (rows : List Row) (outer : List ℤ) (least greatest : Option ℤ) (result : Option (ℤ × ℤ)) → ((value : ℤ) → Lies least greatest value ↔ Allowed rows outer value)
    → is_some least ≡ list_any (bounds_below variable) rows → is_some greatest ≡ list_any (bounds_above variable) rows
    → IfSome result (λ ends. (least ≡ Some ends.0) × (greatest ≡ Some ends.1) × (ends.0 ≤ℤ ends.1))
    → (IsNone result → (low high : ℤ) → least ≡ Some low → greatest ≡ Some high → high <ℤ low)
    → IsNone result ↔ (((value : ℤ) → Allowed rows outer value → ⊥) ⊎ IsOpen variable rows)
range-none variable rows outer least greatest None lies below above found cross = (λ none. none-there variable rows outer least greatest lies below above (cross none), λ h. refl)
range-none variable rows outer least greatest (Some ends) lies below above found cross = (
  λ none. absurd (let e = none in cc),
  λ h. absurd (⊎_elim
      (λ none. none ends.0 (ends-are-range (Allowed rows outer) least greatest ends.0 ends.1 found.0 found.1 found.2 lies).least_allowed)
      (λ open_side. closed variable rows (sym below ∙ ap is_some found.0) (sym above ∙ ap is_some found.1) open_side) h),
)
