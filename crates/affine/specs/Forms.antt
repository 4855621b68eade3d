-- Affine forms: a sum of coefficients times counters, and a constant.
use Rattle.std.specs.Prelude.{◌≡◌, ℕ, ℤ, pos, ◌+ℤ◌, ◌≤◌, List, [], ◌∷◌, unsigned_abs, refl}
use Rattle.std.specs.List.{All}
use Rattle.affine.specs.Sums.{dot}

-- the coefficients, one for each counter in order, and the constant
pub record Affine : Type 0 where
  pub coef : List ℤ
  pub cst : ℤ

-- the value of a form at a point
abbrev pub value_at : Affine → List ℤ → ℤ
value_at form point = dot form.coef point +ℤ form.cst

-- every number is at most this in size
abbrev pub AllWithinSize : ℕ → List ℤ → Type 0
AllWithinSize most numbers = All (λ number. unsigned_abs number ≤ most) numbers

-- 20 i + j + 1 at (4, 7) is 88
value_at-example : value_at (record { coef = pos 20 ∷ pos 1 ∷ []; cst = pos 1 }) (pos 4 ∷ pos 7 ∷ []) ≡ pos 88
value_at-example = refl
