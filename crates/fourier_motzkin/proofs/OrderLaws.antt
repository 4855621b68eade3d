-- The tidied set in its own words, and that the order of the rows is no matter.
use Rattle.std.proofs.Common.{◌≡◌, ℕ, ℤ, pos, ◌≤ℤ◌, int_lt, Bool, true, false, not, ◌&&◌, List, map, filter, refl, sym, ap, ◌∙◌, subst, arith}
use Rattle.std.specs.Ordering.{int_eq}
use Rattle.std.specs.List.{flat_map, list_all}
use Rattle.std.proofs.lemmas.Int.{ints}
use Rattle.std.proofs.lemmas.Bool.{and_parts}
use Rattle.affine.specs.declared.row.Row.{Row}
use Rattle.affine.specs.Rows.{normal}
use Rattle.fourier_motzkin.specs.RowSets.{IsKept, IsTidied, is_constant, says_nothing, told, tidied}
use Rattle.fourier_motzkin.specs.Elimination.{bounds_above, bounds_below, crossed, eliminated, is_without, judged, projected}
use Rattle.fourier_motzkin.specs.Verdicts.{Bounds, bounds_of, levels, ruling, verdict_of}
use Rattle.fourier_motzkin.specs.Laws.{OrderIsNoMatter, SameRows, TidiedIsKept}
use Rattle.plain_lemmas.proofs.MembershipLaws.{any-from-has, has-from-any, contains-from-has, has-from-contains, has-filter, filter-has, has-map, has-left, has-right, has-flat_map}
use Rattle.plain_lemmas.specs.Lists.{Has}
use Rattle.fourier_motzkin.proofs.SetLaws.{LeastIn, has-tidied, least-tidied, least-unique, rising-unique, same-coefficients, tidied-has, tidied-rises, tied-coefficients}
use Rattle.fourier_motzkin.proofs.PointLaws.{has-told, projected-from, told-from}

-- the tidied set

told-tells : (rows : List Row) (row : Row) → Has (told rows) row → says_nothing row ≡ false
told-tells rows row h = at (says_nothing row) (filter-has (λ row. not (says_nothing row)) (map normal rows) row h).1
  where
    at : (b : Bool) → not b ≡ true → b ≡ false
    at true e = cc
    at false e = refl

in-told : (rows : List Row) (given row : Row) → Has rows given → normal given ≡ row → says_nothing row ≡ false → Has (told rows) row
in-told rows given row h e tells = subst (Has (told rows)) e (has-told rows given h (ap says_nothing e ∙ tells))

-- a row that tells is below one with the same coefficients that tells nothing
tells-below : (row other : Row) → other.coef ≡ row.coef → says_nothing row ≡ false → says_nothing other ≡ true → row.cst ≤ℤ other.cst
tells-below row other e tells nothing =
    let constant = (and_parts (is_constant other) (not (int_lt other.cst (pos 0))) nothing).0 in
    let same : is_constant row ≡ is_constant other = ap (λ c. list_all (λ number. int_eq number (pos 0)) c.items) (sym e) in
    at row.cst other.cst (is_constant row) (same ∙ constant) tells ((and_parts (is_constant other) (not (int_lt other.cst (pos 0))) nothing).1)
  where
    at : (x y : ℤ) (b : Bool) → b ≡ true → (b && not (int_lt x (pos 0))) ≡ false → not (int_lt y (pos 0)) ≡ true → x ≤ℤ y
    at x y true e f g = grind (arith, ints)
    at x y false e f g = cc

least-is-kept : (rows : List Row) (row : Row) → LeastIn (told rows) row → IsKept rows row
least-is-kept rows row is = record {
  normal_form = (let (given, h, e) = told-from rows row is.has in any-from-has (λ given. normal given ≡ row) rows given h (sym e));
  tells = told-tells rows row is.has;
  least = λ other form e. (let (given, h, f) = has-from-any (λ given. normal given ≡ other) rows form in at other given h f e (says_nothing other) refl);
}
  where
    at : (other given : Row) → Has rows given → normal given ≡ other → other.coef ≡ row.coef → (b : Bool) → says_nothing other ≡ b → row.cst ≤ℤ other.cst
    at other given h f e true nothing = tells-below row other e (told-tells rows row is.has) nothing
    at other given h f e false tells = is.least other (in-told rows given other h f tells) (same-coefficients row other (sym e))

kept-is-least : (rows : List Row) (row : Row) → IsKept rows row → LeastIn (told rows) row
kept-is-least rows row is = record {
  has = (let (given, h, e) = has-from-any (λ given. normal given ≡ row) rows is.normal_form in in-told rows given row h e is.tells);
  least = λ other h tie. (let (given, k, e) = told-from rows other h in is.least other (any-from-has (λ given. normal given ≡ other) rows given k (sym e)) (sym (tied-coefficients row other tie)));
}

is-tidied : (rows : List Row) → IsTidied rows (tidied rows)
is-tidied rows = record {
  rises = tidied-rises rows;
  has = λ row. (
    λ h. least-is-kept rows row (tidied-has rows row (has-from-contains (tidied rows) row h)),
    λ is. contains-from-has (tidied rows) row (has-tidied rows row (kept-is-least rows row is)),
  );
}

tidied-unique : (rows set : List Row) → IsTidied rows set → set ≡ tidied rows
tidied-unique rows set is = rising-unique set (tidied rows) is.rises (tidied-rises rows)
    (λ row h. has-tidied rows row (kept-is-least rows row ((is.has row).0 (contains-from-has set row h))))
    (λ row h. has-from-contains set row ((is.has row).1 (least-is-kept rows row (tidied-has rows row h))))

pub tidied_is_kept : TidiedIsKept
tidied_is_kept rows set = (tidied-unique rows set, λ e. subst (IsTidied rows) (sym e) (is-tidied rows))

-- the order

told-same : (rows others : List Row) → ((row : Row) → Has rows row → Has others row) → (row : Row) → Has (told rows) row → Has (told others) row
told-same rows others there row h =
    let (given, k, e) = told-from rows row h in
    in-told others given row (there given k) (sym e) (told-tells rows row h)

record Same (rows others : List Row) : Type 0 where
  there : (row : Row) → Has rows row → Has others row
  back : (row : Row) → Has others row → Has rows row

same-from : (rows others : List Row) → SameRows rows others → Same rows others
same-from rows others same = record {
  there = λ row h. has-from-contains others row ((same row).0 (contains-from-has rows row h));
  back = λ row h. has-from-contains rows row ((same row).1 (contains-from-has others row h));
}

least-same : (rows others : List Row) → Same rows others → (row : Row) → LeastIn (told rows) row → LeastIn (told others) row
least-same rows others same row is = record {
  has = told-same rows others same.there row is.has;
  least = λ other h tie. is.least other (told-same others rows same.back other h) tie;
}

turned : (rows others : List Row) → Same rows others → Same others rows
turned rows others same = record { there = same.back; back = same.there }

tidied-same : (rows others : List Row) → Same rows others → tidied rows ≡ tidied others
tidied-same rows others same = least-unique (told rows) (tidied rows) (least-tidied rows) (tidied others) (tidied-rises others)
    (λ row h. least-same others rows (turned rows others same) row (tidied-has others row h))
    (λ row is. has-tidied others row (least-same rows others same row is))

has-projected-without : (variable : ℕ) (rows : List Row) (row : Row) → Has rows row → is_without variable row ≡ true → Has (projected variable rows) row
unfolding projected
has-projected-without variable rows row h is =
    has-left (filter (is_without variable) rows) (flat_map (λ P. map (crossed variable P) (filter (bounds_above variable) rows)) (filter (bounds_below variable) rows)) row (has-filter (is_without variable) rows row h is)

has-projected-crossed : (variable : ℕ) (rows : List Row) (below above : Row) → Has rows below → Has rows above → bounds_below variable below ≡ true → bounds_above variable above ≡ true → Has (projected variable rows) (crossed variable below above)
unfolding projected
has-projected-crossed variable rows below above h k p q =
    has-right (filter (is_without variable) rows) (flat_map (λ P. map (crossed variable P) (filter (bounds_above variable) rows)) (filter (bounds_below variable) rows)) (crossed variable below above)
    (has-flat_map (λ P. map (crossed variable P) (filter (bounds_above variable) rows)) (filter (bounds_below variable) rows) below (crossed variable below above)
    (has-filter (bounds_below variable) rows below h p)
    (has-map (crossed variable below) (filter (bounds_above variable) rows) above (has-filter (bounds_above variable) rows above k q)))

projected-there : (variable : ℕ) (rows others : List Row) → ((row : Row) → Has rows row → Has others row) → (row : Row) → Has (projected variable rows) row → Has (projected variable others) row
projected-there variable rows others there = projected-from variable rows (Has (projected variable others))
    (λ row h is. has-projected-without variable others row (there row h) is)
    (λ below above h k p q. has-projected-crossed variable others below above (there below h) (there above k) p q)

projected-same : (variable : ℕ) (rows others : List Row) → Same rows others → Same (projected variable rows) (projected variable others)
projected-same variable rows others same = record {
  there = projected-there variable rows others same.there;
  back = projected-there variable others rows same.back;
}

eliminated-same : (variable : ℕ) (rows others : List Row) → Same rows others → eliminated variable rows ≡ eliminated variable others
unfolding eliminated
eliminated-same variable rows others same = ap judged (tidied-same (projected variable rows) (projected variable others) (projected-same variable rows others same))

verdict-same : (n : ℕ) (rows others : List Row) → tidied rows ≡ tidied others → verdict_of n rows ≡ verdict_of n others
unfolding verdict_of
verdict-same n rows others e = ap (λ set. ruling n (judged set)) e

bounds-same : (n : ℕ) (rows others : List Row) → tidied rows ≡ tidied others → bounds_of n rows ≡ bounds_of n others
unfolding bounds_of verdict_of
bounds-same n rows others e = ap (λ set. let b : Bounds = record { levels = levels n (judged set); verdict = ruling n (judged set) } in b) e

pub order_is_no_matter : OrderIsNoMatter
order_is_no_matter = record {
  tidied = λ rows others same. tidied-same rows others (same-from rows others same);
  eliminated = λ variable rows others same. eliminated-same variable rows others (same-from rows others same);
  verdict = λ n rows others same. verdict-same n rows others (tidied-same rows others (same-from rows others same));
  bounds = λ n rows others same. bounds-same n rows others (tidied-same rows others (same-from rows others same));
}
