-- What the code of an elimination makes is the elimination.
use Rattle.std.proofs.Common.{◌≡◌, ℕ, List, [], ◌∷◌, ◌++◌, map, filter, refl, sym, ap, ◌∙◌}
use Rattle.std.specs.List.{flat_map}
use Rattle.affine.specs.declared.row.Row.{Row}
use Rattle.fourier_motzkin.specs.RowSets.{tidied, with_row, with_rows}
use Rattle.fourier_motzkin.specs.Elimination.{judged, is_without, bounds_above, bounds_below, crossed, projected, eliminated}
use Rattle.fourier_motzkin.proofs.SetLaws.{with_rows-is}

with_rows-append : (set xs ys : List Row) → with_rows set (xs ++ ys) ≡ with_rows (with_rows set xs) ys
with_rows-append set [] ys = refl
with_rows-append set (x ∷ xs) ys = with_rows-append (with_row x set) xs ys

pub judged-tidied : (rows made : List Row) → made ≡ with_rows [] rows → judged made ≡ judged (tidied rows)
judged-tidied rows made e = ap judged (e ∙ with_rows-is rows)

pub eliminated-is : (variable : ℕ) (rows first second made : List Row) → first ≡ with_rows [] (filter (is_without variable) rows) → second ≡ with_rows first (flat_map (λ P. map (crossed variable P) (filter (bounds_above variable) rows)) (filter (bounds_below variable) rows)) → made ≡ second → judged made ≡ eliminated variable rows
unfolding eliminated projected
eliminated-is variable rows first second made e f g =
    judged-tidied (projected variable rows) made (g ∙ f ∙ ap (λ set. with_rows set (flat_map (λ P. map (crossed variable P) (filter (bounds_above variable) rows)) (filter (bounds_below variable) rows))) e ∙ sym (with_rows-append [] (filter (is_without variable) rows) (flat_map (λ P. map (crossed variable P) (filter (bounds_above variable) rows)) (filter (bounds_below variable) rows))))
