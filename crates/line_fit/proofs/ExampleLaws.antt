-- The fits that are worked by hand are fits.
use Rattle.std.proofs.Common.{refl, ℕ, zero, suc, ◌<◌, pos, inr, ◌≤ℤ◌, [], ◌∷◌, length, get_or, arith}
use Rattle.std.specs.Int.{w64}
use Rattle.std.proofs.lemmas.Int.{ints, fits_signed_from_abs}
use Rattle.affine.specs.Forms.{AllWithinSize}
use Rattle.line_fit.specs.Samples.{sample_at, IsCoefficient}
use Rattle.line_fit.specs.Lines.{largest, residual, IsLine, IsSmall, IsTube, Meets, IsFirstMiss}
use Rattle.line_fit.specs.Examples.{diagonal, squares, FitExamples}

rise : (k : ℕ) → k < 1 → IsCoefficient k squares (get_or diagonal.coef k (pos 0))
rise zero h = inr (record {
  from = 0;
  to = 1;
  step = record {
    step = record { earlier = omega arith; within = omega arith; less = refl };
    first = λ c d below step. let earlier = step.earlier in absurd (omega arith);
    only = λ c below step. absurd (omega arith);
  };
  difference = refl;
})
rise (suc k) h = absurd (omega arith)

line : IsLine 1 squares diagonal
line = record { coefficients = record { counters = refl; each = rise }; meets = refl }

small : IsSmall diagonal
small = record { coefficients = each; constant = fits_signed_from_abs w64 (pos 0) (omega arith) }
  where
    each : AllWithinSize largest diagonal.coef
    each zero d h = omega arith
    each (suc k) d h = absurd (omega arith)

spread : IsTube diagonal squares (pos 0) (pos 6)
spread = record { least = (0, omega arith, refl); greatest = (3, omega arith, refl); about = each }
  where
    each : (place : ℕ) → place < length squares → (pos 0 ≤ℤ residual diagonal (sample_at squares place)) × (residual diagonal (sample_at squares place) ≤ℤ pos 6)
    each zero h = (omega (arith, ints), omega (arith, ints))
    each (suc zero) h = (omega (arith, ints), omega (arith, ints))
    each (suc (suc zero)) h = (omega (arith, ints), omega (arith, ints))
    each (suc (suc (suc zero))) h = (omega (arith, ints), omega (arith, ints))
    each (suc (suc (suc (suc k)))) h = absurd (omega arith)

missed : IsFirstMiss diagonal squares (record { at = pos 2 ∷ []; line = pos 2; seen = pos 4 })
missed = record { place = 2; within = omega arith; at = refl; seen = refl; expected = refl; differs = λ e. cc; first = earlier }
  where
    earlier : (place : ℕ) → place < 2 → Meets diagonal squares place
    earlier zero h = refl
    earlier (suc zero) h = refl
    earlier (suc (suc k)) h = absurd (omega arith)

pub fit-examples : FitExamples
fit-examples = record {
  tube = record { line = line; small = small; spread = spread; narrow = omega (arith, ints) };
  missed = record { line = diagonal; through = line; small = small; low = pos 0; high = pos 6; spread = spread; wide = omega (arith, ints); missed = missed };
}
