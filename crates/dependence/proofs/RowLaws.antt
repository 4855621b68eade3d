-- A row says what its comparison says.
use Rattle.std.proofs.Common.{◌≡◌, sym, ◌∙◌, ℕ, ◌+◌, ◌+ℤ◌, ◌-ℤ◌, ◌*ℤ◌, length, length-append, arith}
use Rattle.std.proofs.Math.IntN.{zero-*ℤ}
use Rattle.std.proofs.lemmas.Int.{ints}
use Rattle.affine.specs.Sums.{dot}
use Rattle.affine.specs.Rows.{sum_at, Meets, variables}
use Rattle.plain_lemmas.proofs.IntegerLaws.{one-*ℤ, -ℤ-*ℤ}
use Rattle.dependence.specs.Comparisons.{Joint, point, Term, Number, Turn, AtX, AtY, value, AtMost, Holds, on_turn, on_x, on_y, alone, less, row_for}
use Rattle.dependence.proofs.SumLaws.{dot-less, length-less, dot-append}

-- the value of a term is its coefficients at the variables, and its constant
value-is : (j : Joint) (p : Term) → value j p ≡ on_turn p *ℤ j.turn +ℤ (dot (on_x p) j.x +ℤ dot (on_y p) j.y) +ℤ alone p
value-is j (Number n) = rw (zero-*ℤ j.turn) (omega (arith, ints))
value-is j (Turn n) = rw (one-*ℤ j.turn) (omega (arith, ints))
value-is j (AtX form) = rw (zero-*ℤ j.turn) (omega (arith, ints))
value-is j (AtY form) = rw (zero-*ℤ j.turn) (omega (arith, ints))

pub sum_at-row_for : (nx ny : ℕ) (j : Joint) (c : AtMost) → length j.x ≡ nx → length j.y ≡ ny → sum_at (row_for nx ny c) (point j) ≡ value j c.right -ℤ value j c.left
sum_at-row_for nx ny j c long wide =
    let xs = less nx (on_x c.right) (on_x c.left) in
    let ys = less ny (on_y c.right) (on_y c.left) in
    let parts = dot-append xs ys j.x j.y (length-less nx (on_x c.right) (on_x c.left) ∙ sym long) in
    let on-x = dot-less nx (on_x c.right) (on_x c.left) j.x (omega arith) in
    let on-y = dot-less ny (on_y c.right) (on_y c.left) j.y (omega arith) in
    let turn = -ℤ-*ℤ (on_turn c.right) (on_turn c.left) j.turn in
    let right = value-is j c.right in
    let left = value-is j c.left in
    rw (turn, parts, on-x, on-y, right, left) (omega (arith, ints))

-- a point meets the row exactly where the comparison holds
pub meets-from-holds : (nx ny : ℕ) (j : Joint) (c : AtMost) → length j.x ≡ nx → length j.y ≡ ny → Holds j c → Meets (point j) (row_for nx ny c)
meets-from-holds nx ny j c long wide h = let e = sum_at-row_for nx ny j c long wide in rw e (omega (arith, ints))

pub holds-from-meets : (nx ny : ℕ) (j : Joint) (c : AtMost) → length j.x ≡ nx → length j.y ≡ ny → Meets (point j) (row_for nx ny c) → Holds j c
holds-from-meets nx ny j c long wide h = let e = sum_at-row_for nx ny j c long wide in let k = rw e at h in omega (arith, ints)

pub variables-row_for : (nx ny : ℕ) (c : AtMost) → variables (row_for nx ny c) ≡ 1 + (nx + ny)
variables-row_for nx ny c =
    let xs = less nx (on_x c.right) (on_x c.left) in
    let ys = less ny (on_y c.right) (on_y c.left) in
    let e = length-append xs ys in
    let f = length-less nx (on_x c.right) (on_x c.left) in
    let g = length-less ny (on_y c.right) (on_y c.left) in
    omega arith
