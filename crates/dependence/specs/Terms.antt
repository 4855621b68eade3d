-- Terms as the code has them, and how wide they may be.
use Rattle.std.specs.Prelude.{ℕ, pos, Bool, if◌then◌else◌, ◌≤◌, ◌^◌, unsigned_abs, slice_index_or}
use Rattle.affine.specs.Forms.{Affine, AllWithinSize}
use Rattle.dependence.specs.Comparisons.{Term, Number, Turn, AtX, AtY, AtMost, at_most, on_x, on_y, alone}
use Rattle.dependence.specs.Systems.{shifted}
use Rattle.dependence.specs.declared.rows.Member.{Member}
use Rattle.dependence.specs.declared.rows.Member.TheVariants.{X, Y}
use Rattle.dependence.specs.declared.comparison.Term.{Term as Coded}
use Rattle.dependence.specs.declared.comparison.Term.TheVariants as coded

abbrev pub term_of : {D : ℕ} → Coded D → Term
term_of (coded.Number number) = Number number
term_of (coded.Turn more) = Turn more
term_of (coded.AtX form) = AtX form
term_of (coded.AtY form) = AtY form

-- every number is at most 2^99 in size
pub record IsNarrow (p : Term) : Type 0 where
  pub x : (k : ℕ) → unsigned_abs (slice_index_or (on_x p) k (pos 0)) ≤ 2 ^ 99
  pub y : (k : ℕ) → unsigned_abs (slice_index_or (on_y p) k (pos 0)) ≤ 2 ^ 99
  pub alone : unsigned_abs (alone p) ≤ 2 ^ 99

-- every number of a form is at most so large in size
pub record IsShort (most : ℕ) (form : Affine) : Type 0 where
  pub coef : AllWithinSize most form.coef
  pub cst : unsigned_abs form.cst ≤ most

-- a form at x, or at y
abbrev pub at_member : Member → Affine → Term
at_member X form = AtX form
at_member Y form = AtY form

-- a form at y is less than another at x, or greater
abbrev pub turned : Bool → Affine → Affine → AtMost
turned above x y = if above then at_most (AtX (shifted (pos 1) x)) (AtY y) else at_most (AtY (shifted (pos 1) y)) (AtX x)
