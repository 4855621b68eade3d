-- Sums, rows and quotients over the products of a matrix.
use Rattle.std.proofs.Common.{◌≡◌, ℕ, zero, suc, ℤ, pos, ◌+ℤ◌, ◌*ℤ◌, ◌≤ℤ◌, List, [], ◌∷◌, length, replicate, refl, sym, ap, ap₂, ◌∙◌, subst, arith}
use Rattle.std.specs.Int.{int_div_euclid}
use Rattle.std.specs.List.{AllByRecursion}
use Rattle.std.proofs.Math.IntN.{*ℤ_comm}
use Rattle.std.proofs.lemmas.Int.{by_lt_z, ints}
use Rattle.plain_lemmas.proofs.IntegerLaws.{one-*ℤ}
use Rattle.affine.specs.Inverses.{across}
use Rattle.affine.specs.Laws.{FormOverPlaces, RowOverPlaces, QuotientIsInterval}
use Rattle.affine.specs.Matrices.{product}
use Rattle.affine.specs.Sums.{dot}
use Rattle.affine.proofs.FloorLaws.{≤ℤ-floor_by}
use Rattle.affine.proofs.InverseLaws.{length-across}
use Rattle.affine.proofs.MoveLaws.{length-product}
use Rattle.affine.proofs.SumLaws.{dot-weighted-point, dot-comm}

pub form_over_places : FormOverPlaces
form_over_places n columns coef place square size long = at columns place square.long
  where
    dot-none : (m : ℕ) (xs : List ℤ) → dot xs (replicate m (pos 0)) ≡ pos 0
    dot-none zero [] = refl
    dot-none zero (x ∷ xs) = refl
    dot-none (suc m) [] = refl
    dot-none (suc m) (x ∷ xs) = let rest = dot-none m xs in let nothing : x *ℤ pos 0 ≡ pos 0 = omega (arith, ints) in ap₂ (λ (a b : ℤ). a +ℤ b) nothing rest

    at : (columns : List (List ℤ)) (place : List ℤ) → AllByRecursion (λ column. length column ≡ n) columns → dot coef (across n columns place) ≡ dot (product columns coef) place
    at [] place all = dot-none n coef
    at (column ∷ columns) [] all = dot-none n coef
    at (column ∷ columns) (y ∷ place) all =
        dot-weighted-point coef y column (pos 1) (across n columns place) (all.0 ∙ sym (length-across n columns place all.1))
        ∙ ap₂ (λ (a b : ℤ). a +ℤ b) (*ℤ_comm y (dot coef column) ∙ ap (λ (z : ℤ). z *ℤ y) (dot-comm coef column)) (one-*ℤ (dot coef (across n columns place)) ∙ at columns place all.1)

pub row_over_places : RowOverPlaces
row_over_places n rows columns row point inverse size long =
    let many = inverse.rows_square.many in
    let same : dot row.coef.items point ≡ dot (product columns row.coef.items) (product rows point) =
    ap (dot row.coef.items) (sym (inverse.there point long)) ∙ form_over_places n columns row.coef.items (product rows point) inverse.columns_square size (length-product rows point ∙ many) in
    (λ met. subst (λ (z : ℤ). pos 0 ≤ℤ (z +ℤ row.cst)) same met, λ met. subst (λ (z : ℤ). pos 0 ≤ℤ (z +ℤ row.cst)) (sym same) met)

pub quotient_is_interval : QuotientIsInterval
quotient_is_interval number divisor quotient positive =
    let here = ≤ℤ-floor_by number divisor quotient positive in
    let next = ≤ℤ-floor_by number divisor (quotient +ℤ pos 1) positive in (
      λ e. (
        here.1 (omega (arith, ints, e)),
        by_lt_z number (divisor *ℤ (quotient +ℤ pos 1)) (λ less. less) (λ over. absurd (let more = next.0 over in omega (arith, ints, more, e))),
      ),
      λ h. (
          let least = here.0 h.0 in
          let most : int_div_euclid number divisor ≤ℤ quotient = by_lt_z quotient (int_div_euclid number divisor) (λ less. absurd (let over = next.1 (omega (arith, ints, less)) in let under = h.1 in omega (arith, ints, over, under))) (λ is. is) in
          omega (arith, ints, least, most)
          ),
    )
