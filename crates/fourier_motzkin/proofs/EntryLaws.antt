-- A tidied set as the entries of a map, from coefficients to constants.
use Rattle.std.proofs.Common.{◌≡◌, ℤ, true, false, cond, List, [], ◌∷◌, map, refl, sym, ap, Ordering, Less, Equal, Greater, Some, None, int_cmp, is_eq, ◌≤ℤ◌, ◌<ℤ◌, int_lt, arith}
use Rattle.std.specs.Prelude.{if◌then◌else◌}
use Rattle.std.specs.Ordering.{match_ordering}
use Rattle.std.specs.BTreeMap.{insert_entry, is_at}
use Rattle.std.specs.Map.{keys_of, lookup}
use Rattle.std.specs.List.Sorted.{IsStrictlySortedBy}
use Rattle.std.specs.Cmp.{IsTotalOrder}
use Rattle.std.specs.Cmp.Lexicographic.{slice_cmp}
use Rattle.std.proofs.lemmas.Cmp.{lists_total, int_cmp_total, on_total}
use Rattle.std.proofs.lemmas.Map.{lookup-none}
use Rattle.std.proofs.lemmas.Map.Entries.{none_below_head}
use Rattle.std.proofs.lemmas.Int.{ints}
use Rattle.arrayvec.specs.ArrayVec.{ArrayVec}
use Rattle.affine.specs.declared.row.Row.{Row}
use Rattle.fourier_motzkin.specs.RowSets.{kept}
use Rattle.plain_lemmas.proofs.OrderLaws.{slice_cmp-exact}

-- coefficients by their places
abbrev pub by_places : ArrayVec ℤ → ArrayVec ℤ → Ordering
by_places first second = slice_cmp int_cmp first.items second.items

abbrev pub row_at : ArrayVec ℤ × ℤ → Row
row_at entry = record { coef = entry.0; cst = entry.1 }

by-places-total : IsTotalOrder by_places
by-places-total = on_total (λ (v : ArrayVec ℤ). v.items) (lists_total int_cmp_total)

-- the entry that stands there has no greater constant
pub kept-stays : (k : ArrayVec ℤ) (cst v : ℤ) (es : List (ArrayVec ℤ × ℤ)) → IsStrictlySortedBy by_places (keys_of es) → lookup (is_at (by_places k)) es ≡ Some v → v ≤ℤ cst → kept (row_at (k, cst)) (map row_at es) ≡ map row_at es
unfolding IsStrictlySortedBy
kept-stays k cst v [] up found below = cc
kept-stays k cst v (e ∷ es) up found below = at (by_places k e.0) refl found (λ m. kept-stays k cst v es up.1 m below)
  where
    stands : e.1 ≤ℤ cst → int_lt cst e.1 ≡ false
    stands h = grind (arith, ints)

    at : (o : Ordering) → by_places k e.0 ≡ o → cond (is_eq o) (Some e.1) (lookup (is_at (by_places k)) es) ≡ Some v → (lookup (is_at (by_places k)) es ≡ Some v → kept (row_at (k, cst)) (map row_at es) ≡ map row_at es) → match_ordering o (row_at (k, cst) ∷ row_at e ∷ map row_at es) ((if int_lt cst e.1 then row_at (k, cst) else row_at e) ∷ map row_at es) (row_at e ∷ kept (row_at (k, cst)) (map row_at es)) ≡ row_at e ∷ map row_at es
    at Less o h more = let none : lookup (is_at (by_places k)) (e ∷ es) ≡ None = lookup-none (is_at (by_places k)) (e ∷ es) (none_below_head by-places-total k e es up o) in cc
    at Equal o h more = let is : e.1 ≡ v = cc in rw (stands (rw is below)) refl
    at Greater o h more = ap (λ rows. row_at e ∷ rows) (more h)

-- there is none, or it has a greater constant
pub kept-goes : (k : ArrayVec ℤ) (cst : ℤ) (es : List (ArrayVec ℤ × ℤ)) → ((v : ℤ) → lookup (is_at (by_places k)) es ≡ Some v → cst <ℤ v) → map row_at (insert_entry by_places es k cst) ≡ kept (row_at (k, cst)) (map row_at es)
kept-goes k cst [] above = refl
kept-goes k cst (e ∷ es) above = at (by_places k e.0) refl above (λ m. kept-goes k cst es m)
  where
    goes : cst <ℤ e.1 → int_lt cst e.1 ≡ true
    goes h = grind (arith, ints)

    at : (o : Ordering) → by_places k e.0 ≡ o → ((v : ℤ) → cond (is_eq o) (Some e.1) (lookup (is_at (by_places k)) es) ≡ Some v → cst <ℤ v) → (((v : ℤ) → lookup (is_at (by_places k)) es ≡ Some v → cst <ℤ v) → map row_at (insert_entry by_places es k cst) ≡ kept (row_at (k, cst)) (map row_at es)) → map row_at (match_ordering o ((k, cst) ∷ e ∷ es) ((e.0, cst) ∷ es) (e ∷ insert_entry by_places es k cst)) ≡ match_ordering o (row_at (k, cst) ∷ row_at e ∷ map row_at es) ((if int_lt cst e.1 then row_at (k, cst) else row_at e) ∷ map row_at es) (row_at e ∷ kept (row_at (k, cst)) (map row_at es))
    at Less o h more = refl
    at Equal o h more = rw (goes (h e.1 refl)) (ap (λ xs. record { coef = record { items = xs }; cst = cst } ∷ map row_at es) (sym (slice_cmp-exact k.items e.0.items o)))
    at Greater o h more = ap (λ rows. row_at e ∷ rows) (more h)

pub kept-inserted : (k : ArrayVec ℤ) (cst z : ℤ) (es fs gs : List (ArrayVec ℤ × ℤ)) (set : List Row) → gs ≡ insert_entry by_places fs k z → z ≡ cst → fs ≡ es → map row_at es ≡ set → ((v : ℤ) → lookup (is_at (by_places k)) es ≡ Some v → cst <ℤ v) → map row_at gs ≡ kept (row_at (k, cst)) set
kept-inserted k cst z es fs gs set is e f g above = rw (is, e, f, ← g) (kept-goes k cst es above)
