-- The line through samples, once its coefficients and its constant are found.
use Rattle.std.proofs.Common.{◌≡◌, refl, sym, subst, ap, ◌∙◌, ℕ, ◌<◌, inr, ℤ, pos, ◌+ℤ◌, ◌-ℤ◌, ◌≤ℤ◌, ◌<ℤ◌, List, length, FitsSigned, arith}
use Rattle.std.specs.Int.{w64}
use Rattle.std.proofs.lemmas.Int.{ints}
use Rattle.affine.specs.Forms.{Affine, AllWithinSize, value_at}
use Rattle.affine.specs.Sums.{dot}
use Rattle.line_fit.specs.Samples.{Sample, sample_at}
use Rattle.line_fit.specs.Lines.{largest, residual, AreCoefficients, IsLine, IsSmall, IsLarge, IsTube, Meets}

-- the constant makes the line meet the first sample
constant-meets : (coef at : List ℤ) (value constant : ℤ) → constant ≡ value -ℤ (dot coef at +ℤ pos 0) → dot coef at +ℤ constant ≡ value
constant-meets coef at value constant e = omega (arith, ints)

pub line-found : (n : ℕ) (samples : List Sample) (coef at : List ℤ) (value constant : ℤ) → AreCoefficients n samples coef → at ≡ (sample_at samples 0).at → value ≡ (sample_at samples 0).value → constant ≡ value -ℤ (dot coef at +ℤ pos 0) → IsLine n samples (record { coef = coef; cst = constant })
line-found n samples coef at value constant found at_0 value_0 e =
    record { coefficients = found; meets = ap (λ (q : List ℤ). dot coef q +ℤ constant) (sym at_0) ∙ constant-meets coef at value constant e ∙ value_0 }

pub line-small : (coef : List ℤ) (constant : ℤ) → AllWithinSize largest coef → FitsSigned w64 constant → IsSmall (record { coef = coef; cst = constant })
line-small coef constant small fits = record { coefficients = small; constant = fits }

pub constant-large : (n : ℕ) (samples : List Sample) (coef : List ℤ) (constant : ℤ) → IsLine n samples (record { coef = coef; cst = constant }) → AllWithinSize largest coef → (FitsSigned w64 constant → ⊥) → IsLarge n samples constant
constant-large n samples coef constant line small large = inr (record { line = record { coef = coef; cst = constant }; through = line; coefficients = small; is = refl; large = large })

-- a tube holds 0, since the line meets the first sample
residual-zero : (line : Affine) (s : Sample) → value_at line s.at ≡ s.value → residual line s ≡ pos 0
residual-zero line s e = rw e (omega (arith, ints))

pub tube-holds-zero : (n : ℕ) (samples : List Sample) (line : Affine) (low high : ℤ) → 0 < length samples → IsLine n samples line → IsTube line samples low high → (low ≤ℤ pos 0) × (pos 0 ≤ℤ high)
tube-holds-zero n samples line low high some through tube =
    let about = tube.about 0 some in
    let zero = residual-zero line (sample_at samples 0) through.meets in
    (subst (λ (z : ℤ). low ≤ℤ z) zero about.0, subst (λ (z : ℤ). z ≤ℤ high) zero about.1)

-- a line that meets every sample has the tube (0, 0)
pub tube-of-met : (samples : List Sample) (line : Affine) (low high : ℤ) (widest : ℕ) → IsTube line samples low high → ((place : ℕ) → place < length samples → Meets line samples place) → pos widest <ℤ (high -ℤ low) → ⊥
tube-of-met samples line low high widest tube met wide =
    let least : low ≡ pos 0 = sym tube.least.2 ∙ residual-zero line (sample_at samples tube.least.0) (met tube.least.0 tube.least.1) in
    let greatest : high ≡ pos 0 = sym tube.greatest.2 ∙ residual-zero line (sample_at samples tube.greatest.0) (met tube.greatest.0 tube.greatest.1) in
    omega (arith, ints)
