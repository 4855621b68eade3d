-- Sums of rows at a point.
use Rattle.std.proofs.Common.{◌≡◌, ℤ, pos, ◌+ℤ◌, ◌*ℤ◌, ◌≤ℤ◌, List, [], ◌∷◌, ◌++◌, length, arith}
use Rattle.std.proofs.lemmas.Int.{ints}
use Rattle.plain_lemmas.proofs.IntegerLaws.{*ℤ-+ℤ, *ℤ-non_negative}
use Rattle.affine.specs.declared.row.Row.{Row}
use Rattle.affine.specs.Sums.{dot}
use Rattle.affine.specs.Rows.{variables, coefficient, sum_at, Meets, combination}
use Rattle.affine.proofs.SumLaws.{dot-weighted, dot-push, length-weighted}

-- the sum of q·P + p·N is q times the sum of P and p times the sum of N
pub sum_at-combination : (q : ℤ) (P : Row) (p : ℤ) (N : Row) (point : List ℤ) → variables P ≡ variables N → sum_at (combination q P p N) point ≡ q *ℤ sum_at P point +ℤ p *ℤ sum_at N point
sum_at-combination q P p N point h =
    rw (dot-weighted q P.coef.items p N.coef.items point h, *ℤ-+ℤ q (dot P.coef.items point) P.cst, *ℤ-+ℤ p (dot N.coef.items point) N.cst) (omega (arith, ints))

-- the sum with one more number of the point
pub sum_at-push : (row : Row) (point : List ℤ) (v : ℤ) → sum_at row (point ++ v ∷ []) ≡ sum_at row point +ℤ coefficient row (length point) *ℤ v
sum_at-push row point v = rw (dot-push row.coef.items point v) (omega (arith, ints))

-- a point that meets P and N meets q·P + p·N for q and p of at least 0
pub Meets-combination : (q : ℤ) (P : Row) (p : ℤ) (N : Row) (point : List ℤ) → variables P ≡ variables N → pos 0 ≤ℤ q → pos 0 ≤ℤ p → Meets point P → Meets point N → Meets point (combination q P p N)
Meets-combination q P p N point h some more first second =
    rw (sum_at-combination q P p N point h)
    (let a = *ℤ-non_negative q (sum_at P point) some first in
    let b = *ℤ-non_negative p (sum_at N point) more second in
    omega (arith, ints))

pub variables-combination : (q : ℤ) (P : Row) (p : ℤ) (N : Row) → variables P ≡ variables N → variables (combination q P p N) ≡ variables P
variables-combination q P p N h = length-weighted q P.coef.items p N.coef.items h
