-- The strips of a small run stay far from the ends of what is computed with.
use Rattle.std.proofs.Common.{◌≡◌, sym, ap, subst, ℕ, ◌<◌, ◌≤◌, ◌+◌, ◌*◌, ◌^◌, ℤ, pos, ◌+ℤ◌, ◌-ℤ◌, unsigned_abs, Bool, false, List, length, arith}
use Rattle.std.specs.Prelude.{int_lt, if◌then◌else◌}
use Rattle.std.proofs.lemmas.Int.{ints}
use Rattle.plain_lemmas.proofs.IntegerLaws.{le-int_lt}
use Rattle.affine.specs.Forms.{Affine, AllWithinSize, value_at}
use Rattle.affine.specs.Sums.{dot}
use Rattle.affine.proofs.SumLaws.{abs-dot}
use Rattle.domain.specs.Tables.{Access, IsTube}
use Rattle.domain.proofs.CheckLaws.{value-size}
use Rattle.skeletons.specs.Runs.{along}
use Rattle.skeletons.proofs.SideLaws.{wider}
use Rattle.tiles.specs.Strips.{AreSmall, IsNear, form_strip, offset_count}
use Rattle.tiles.proofs.RunLaws.{along-none}
use Rattle.tiles.proofs.StripLaws.{strip-address}

-- ---- tubes

pub tube-count : (a : Access) → IsTube a.low a.high → offset_count a ≡ unsigned_abs (a.high -ℤ a.low) + 1
tube-count a is =
    let low = is.below in let high = is.above in
    let e : int_lt a.high a.low ≡ false = le-int_lt a.high a.low (omega (arith, ints, low, high)) in
    ap (λ (b : Bool). if b then 0 else unsigned_abs (a.high -ℤ a.low) + 1) e

-- an offset of a tube is at most 64 in size, and so is its number
pub record IsOffset (low : ℤ) (place : ℕ) : Type 0 where
  pub low-near : unsigned_abs low ≤ 64
  pub place-near : place ≤ 64
  pub near : unsigned_abs (low +ℤ pos place) ≤ 64

pub tube-offset : (a : Access) (place : ℕ) → IsTube a.low a.high → place < offset_count a → IsOffset a.low place
tube-offset a place is below =
    let low = is.below in let high = is.above in let width = is.width in let count = tube-count a is in
    record {
      low-near = omega (arith, ints, low, high, width);
      place-near = omega (arith, ints, low, high, width, count, below);
      near = omega (arith, ints, low, high, width, count, below);
    }

-- ---- runs

pub first-small : (at step : List ℤ) (count : ℕ) → AreSmall at step count → AllWithinSize (2 ^ 33) at
first-small at step count small = subst (AllWithinSize (2 ^ 33)) (along-none at step small.long) (small.all 0 (let s = small.some in omega (arith, s)))

pub step-small : (at step : List ℤ) (count : ℕ) → AreSmall at step count → AllWithinSize (2 ^ 33) step
step-small at step count small = wider (2 ^ 20) (2 ^ 33) step (omega arith) small.by

pub step-of : (form : Affine) (step : List ℤ) → value_at form step -ℤ form.cst ≡ dot form.coef step
step-of form step = omega (arith, ints)

few-times : (l : ℕ) → l < 7 → l * (2 ^ 40 * 2 ^ 20) < 2 ^ 63
few-times l h = omega arith

pub strip-step : (form : Affine) (at step : List ℤ) (count : ℕ) → AllWithinSize (2 ^ 40) form.coef → length form.coef < 7 → AreSmall at step count → unsigned_abs (dot form.coef step) < 2 ^ 63
strip-step form at step count coef few small =
    let most = abs-dot form.coef step (2 ^ 40) (2 ^ 20) coef small.by in
    let times = few-times (length form.coef) few in
    omega (arith, most, times)

pub strip-near : (form : Affine) (at step : List ℤ) (count : ℕ) (offset : ℤ) → AllWithinSize (2 ^ 40) form.coef → length form.coef < 7 → unsigned_abs form.cst ≤ 2 ^ 63 → unsigned_abs offset ≤ 64 → AreSmall at step count → IsNear (form_strip form at step count offset)
strip-near form at step count offset coef few cst near small = record {
  step = (let s = strip-step form at step count coef few small in omega (arith, s));
  all = λ k below.
      let here = along step at (pos k) in
      let value = value-size form here coef few (small.all k below) cst in
      let is = strip-address (record { first = record { block = 0; at = at }; step = step; count = count }) form offset k small.long in
      subst (λ (z : ℤ). unsigned_abs z ≤ 2 ^ 90) (sym is) (sum (value_at form here) value);
}
  where
    sum : (v : ℤ) → unsigned_abs v < 2 ^ 77 → unsigned_abs (v +ℤ offset) ≤ 2 ^ 90
    sum v h = omega (arith, ints, h, near)
